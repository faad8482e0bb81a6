-- Where the full names of a family differ, the first that has a name is the only one: its number is the place of the name among the names of its sort,
-- and a name is found as a thing where it is a thing's, and else as an attribute. By induction on the declarations, from what is declared before. So each full name
-- that a use is tried as stands for its place. Assumes nothing.
use mathlib.Core.Path.{◌≡◌, refl, sym, ap, subst, ◌∙◌}
use mathlib.Core.Bool.{Bool, true, false, ◌||◌, cond, false≢true}
use mathlib.Core.List.{List, [], ◌∷◌, ◌++◌}
use mathlib.Core.Option.{Option, none, some}
use Prim.Native.Nat.{ℕ, ◌+◌}
use native.Mathlib.Omega.{arith}
use Rattle.lexer.specs.Spell.{bytes}
use Rattle.policy.specs.Basics.{Name, same, any, is_in, next, index_of, gather, keep, given, ◌>>=◌, or_else}
use Rattle.policy.specs.Statements.{Family, Sort, Declaration, plain, class}
use Rattle.policy.specs.Statements.{same_family, same_sort, family_of, of_sort, of_family, names_of, family_names, count, thing_of, attribute_of, Reference, thing, attribute}
use Rattle.policy.specs.Names.{tries, first_hit, Named, environment_of, first_from, number_in, refer, reference_of}
use Rattle.policy.specs.Sound.{good_from}
use Rattle.policy.proofs.Lists.{same-is, any_append, gather_append, gather-last}
use Rattle.policy.proofs.Sameness.{family-same, family-self, sort-same, sort-self}
use Rattle.policy.proofs.Good.{good-first, good-rest}
use Rattle.policy.proofs.IfAny.{IfAny}
use Rattle.policy.proofs.Environments.{named_in}
use Rattle.policy.proofs.Options.{or-none}
use Rattle.policy.proofs.Counts.{count_same, count-more}

-- ---- names of a family differ

still-in : (f : Family) (w : Name) (e : List Declaration) (d : Declaration) → is_in w (family_names f e) ≡ true → is_in w (family_names f (e ++ (d ∷ []))) ≡ true
unfolding is_in family_names
still-in f w e d h =
    ap (any (same w)) (gather_append (of_family f) e (d ∷ [])) ∙ any_append (same w) (gather (of_family f) e) (gather (of_family f) (d ∷ [])) ∙ rw h

now-in : (s : Sort) (w v : Name) (e : List Declaration) → same w v ≡ true → is_in w (family_names (family_of s) (e ++ (plain s v ∷ []))) ≡ true
unfolding is_in family_names any
now-in s w v e h =
    ap (any (same w)) (gather-last (of_family (family_of s)) e (plain s v) v (rw (family-self (family_of s))))
    ∙ any_append (same w) (gather (of_family (family_of s)) e) (v ∷ []) ∙ rw h (or-true (any (same w) (gather (of_family (family_of s)) e)))
  where
    or-true : (q : Bool) → (q || (true || false)) ≡ true
    or-true true = refl
    or-true false = refl

-- a name that the family has is not declared again
never-again : (s : Sort) (w : Name) (e ds : List Declaration) → good_from e ds ≡ true → is_in w (family_names (family_of s) e) ≡ true → index_of w (names_of s ds) ≡ none
unfolding names_of gather index_of
never-again s w e [] g h = refl
never-again s w e (class v ps ∷ ds) g h = never-again s w (e ++ (class v ps ∷ [])) ds (good-rest e (class v ps) ds g) (still-in (family_of s) w e (class v ps) h)
never-again s w e (plain t v ∷ ds) g h =
    by (never-again s w (e ++ (plain t v ∷ [])) ds (good-rest e (plain t v) ds g) (still-in (family_of s) w e (plain t v) h)) (same_sort s t) (same w v) refl refl
  where
    by : index_of w (gather (of_sort s) ds) ≡ none → (p q : Bool) → same_sort s t ≡ p → same w v ≡ q
        → index_of w (keep (cond p (some v) none) (gather (of_sort s) ds)) ≡ none
    by ih false q st wv = ih
    by ih true false st wv = rw (wv, ih)
    by ih true true st wv =
        let once : is_in v (family_names (family_of t) e) ≡ true =
        subst (λ (u : Name). is_in u (family_names (family_of t) e) ≡ true) (same-is w v wv)
        (subst (λ (u : Sort). is_in w (family_names (family_of u) e) ≡ true) (sort-same s t st) h) in
        absurd (false≢true (rw once at (good-first e (plain t v) ds g).new))

-- ---- the number of a name of one sort

abbrev shift : ℕ → Option ℕ → Option ℕ
shift a none = none
shift a (some n) = some (a + n)

shift-next : (a : ℕ) (o : Option ℕ) → shift (a + 1) o ≡ shift a (next o)
shift-next a none = refl
shift-next a (some n) = ap some (omega arith)

shift_none : (o : Option ℕ) → shift 0 o ≡ o
shift_none none = refl
shift_none (some n) = ap some (omega arith)

-- the number of what is found, if it is of the sort
abbrev pub of_the_sort : Sort → Option Named → Option ℕ
of_the_sort s o = o >>= λ d. given (same_sort s d.sort) d.number

-- what is found among the declarations ds, after e
abbrev Answers : Sort → Name → List Declaration → List Declaration → Type 0
Answers s w e ds = of_the_sort s (first_from e ds (family_of s) w) ≡ shift (count s e) (index_of w (names_of s ds))

module _ (s : Sort) (w : Name) (e : List Declaration) (v : Name) (ds : List Declaration) where
  own-sort : (q : Bool) → same w v ≡ q → Answers s w (e ++ (plain s v ∷ [])) ds → Answers s w e (plain s v ∷ ds)
  unfolding first_from names_of gather index_of
  own-sort true wv ih = rw (family-self (family_of s), wv, sort-self s, wv) (ap some (omega arith))
  own-sort false wv ih =
      rw (family-self (family_of s), wv, sort-self s, wv, ih, count-more s e (plain s v) v (rw (sort-self s)))
      (shift-next (count s e) (index_of w (gather (of_sort s) ds)))

  sort-apart : (t : Sort) → same_sort s t ≡ false → good_from (e ++ (plain t v ∷ [])) ds ≡ true → (p q : Bool) → same_family (family_of s) (family_of t) ≡ p → same w v ≡ q
      → Answers s w (e ++ (plain t v ∷ [])) ds → Answers s w e (plain t v ∷ ds)
  unfolding first_from names_of gather index_of
  sort-apart t st g false q fa wv ih = rw (fa, st, ih, count_same s e (plain t v) (rw st))
  sort-apart t st g true false fa wv ih = rw (fa, wv, st, ih, count_same s e (plain t v) (rw st))
  sort-apart t st g true true fa wv ih =
      let has : is_in w (family_names (family_of s) (e ++ (plain t v ∷ []))) ≡ true =
      subst (λ (f : Family). is_in w (family_names f (e ++ (plain t v ∷ []))) ≡ true) (sym (family-same (family_of s) (family_of t) fa)) (now-in t w v e wv) in
      rw (fa, wv, st, never-again s w (e ++ (plain t v ∷ [])) ds g has)

  by-sort : (t : Sort) → good_from (e ++ (plain t v ∷ [])) ds ≡ true → (p : Bool) → same_sort s t ≡ p
      → Answers s w (e ++ (plain t v ∷ [])) ds → Answers s w e (plain t v ∷ ds)
  by-sort t g false st ih = sort-apart t st g (same_family (family_of s) (family_of t)) (same w v) refl refl ih
  by-sort t g true st ih =
      subst (λ (u : Sort). Answers s w (e ++ (plain u v ∷ [])) ds → Answers s w e (plain u v ∷ ds)) (sort-same s t st) (own-sort (same w v) refl) ih

sort-from : (s : Sort) (w : Name) (e ds : List Declaration) → good_from e ds ≡ true → Answers s w e ds
unfolding first_from names_of gather index_of
sort-from s w e [] g = refl
sort-from s w e (class v ps ∷ ds) g = sort-from s w (e ++ (class v ps ∷ [])) ds (good-rest e (class v ps) ds g) ∙ rw (count_same s e (class v ps) refl)
sort-from s w e (plain t v ∷ ds) g =
    let good = good-rest e (plain t v) ds g in
    by-sort s w e v ds t good (same_sort s t) refl (sort-from s w (e ++ (plain t v ∷ [])) ds good)

-- what a full name of a sort is found as is its place among the names of the sort
pub first-is-place : (ds : List Declaration) (s : Sort) (w : Name) → good_from [] ds ≡ true → of_the_sort s (first_from [] ds (family_of s) w) ≡ index_of w (names_of s ds)
unfolding count names_of gather
first-is-place ds s w g = sort-from s w [] ds g ∙ shift_none (index_of w (gather (of_sort s) ds))

-- ---- uses of names

-- "Things are numbered from 0 in text order within their sort": a use that is tried as one full name alone stands, in any block, for the place of that name among
-- the names of the sort
pub number-is-place : (ds : List Declaration) (path : List Name) (s : Sort) (v w : Name) → tries path v ≡ w ∷ [] → good_from [] ds ≡ true
    → number_in (environment_of ds path) s v ≡ index_of w (names_of s ds)
unfolding environment_of number_in first_hit
number-is-place ds path s v w e g = rw e (ap (of_the_sort s) (or-none (first_from [] ds (family_of s) w)) ∙ first-is-place ds s w g)

-- a name that may stand for a thing or an attribute stands for the thing that has it, and else for the attribute
as-placed : (f : Family) (o : Option Named) (x y : Option ℕ) → IfAny (λ d. family_of d.sort ≡ f) o → of_the_sort (thing_of f) o ≡ x → of_the_sort (attribute_of f) o ≡ y
    → (o >>= λ d. some (reference_of d)) ≡ or_else (x >>= λ n. some (thing n)) (y >>= λ n. some (attribute n))
as-placed f none x y h p q = rw (← p, ← q)
as-placed f (some d) x y h p q = by d.sort refl
  where
    by : (s : Sort) → d.sort ≡ s → some (elim s [ thing_of g ↦ thing d.number | attribute_of g ↦ attribute d.number ])
        ≡ or_else (x >>= λ n. some (thing n)) (y >>= λ n. some (attribute n))
    by (thing_of g) e = let k : g ≡ f = sym (ap family_of e) ∙ h.has d refl in rw (← p, e, k, family-self f)
    by (attribute_of g) e = let k : g ≡ f = sym (ap family_of e) ∙ h.has d refl in rw (← p, ← q, e, k, family-self f)

-- what a full name of a family stands for
abbrev pub place_in : List Declaration → Family → Name → Option Reference
place_in ds f w = or_else (index_of w (names_of (thing_of f) ds) >>= λ n. some (thing n)) (index_of w (names_of (attribute_of f) ds) >>= λ n. some (attribute n))

-- what is found is of the family
of-family : (ds : List Declaration) (f : Family) (w : Name) → IfAny (λ d. family_of d.sort ≡ f) (first_from [] ds f w)
unfolding environment_of tries first_hit
of-family ds f w = record { has = λ d e. ((named_in ds [] f (bytes "." ++ w)).has d (or-none (first_from [] ds f w) ∙ e)).family }

-- so it is a thing's or an attribute's place
pub first-is-reference : (ds : List Declaration) (f : Family) (w : Name) → good_from [] ds ≡ true
    → (first_from [] ds f w >>= λ d. some (reference_of d)) ≡ place_in ds f w
first-is-reference ds f w g =
    as-placed f (first_from [] ds f w) _ _ (of-family ds f w) (first-is-place ds (thing_of f) w g) (first-is-place ds (attribute_of f) w g)

-- "the first hit of the family decides"
hit-is-reference : (ds : List Declaration) (f : Family) (ws : List Name) → good_from [] ds ≡ true
    → (first_hit (first_from [] ds f) ws >>= λ d. some (reference_of d)) ≡ first_hit (place_in ds f) ws
unfolding first_hit
hit-is-reference ds f [] g = refl
hit-is-reference ds f (w ∷ ws) g = by (first_from [] ds f w) (first-is-reference ds f w g) (hit-is-reference ds f ws g)
  where
    by : (o : Option Named) → (o >>= λ d. some (reference_of d)) ≡ place_in ds f w
        → (first_hit (first_from [] ds f) ws >>= λ d. some (reference_of d)) ≡ first_hit (place_in ds f) ws
        → (or_else o (first_hit (first_from [] ds f) ws) >>= λ d. some (reference_of d)) ≡ or_else (place_in ds f w) (first_hit (place_in ds f) ws)
    by none h k = rw (← h) k
    by (some d) h k = rw (← h)

-- a use stands, in any block, for what the first stands for of the full names that it is tried as and that stand for something
pub reference-is-place : (ds : List Declaration) (path : List Name) (f : Family) (v : Name) → good_from [] ds ≡ true
    → refer (environment_of ds path) f v ≡ first_hit (place_in ds f) (tries path v)
unfolding refer environment_of
reference-is-place ds path f v g = hit-is-reference ds f (tries path v) g
