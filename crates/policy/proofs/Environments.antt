-- The environment of declarations: what a name stands for is declared, so its number is below how many of its sort there are; and a use that is tried
-- once. Assumes nothing.
use Prim.Native.Nat.{ℕ, suc, ◌<◌}
use native.Mathlib.Omega.{arith}
use mathlib.Core.Path.{◌≡◌, refl, sym, subst}
use mathlib.Core.Bool.{Bool, true, false, ◌&&◌, cond}
use mathlib.Core.List.{List, [], ◌∷◌, ◌++◌, append_assoc}
use mathlib.Core.Option.{Option, none, some}
use lib.ListN.{length, length-append}
use Rattle.policy.specs.Basics.{Name, same, next, index_of, gather}
use Rattle.policy.specs.Statements.{Family, Sort, Declaration, plain, class, same_family, same_sort, family_of, of_sort, names_of, class_names, permissions, count}
use Rattle.policy.specs.Names.{Named, tries, first_hit, environment_of, first_from, number_in, has_dot_in_front, outward}
use Rattle.policy.proofs.IfAny.{IfAny, nothing, just, and_then, if-given, or-else}
use Rattle.policy.proofs.Lists.{gather_append}
use Rattle.policy.proofs.Sameness.{family-same, sort-same, sort-self}

-- the number of a name is below the number of names
index-here : (b : Bool) (o : Option ℕ) (n : ℕ) → IfAny (λ k. k < n) o → IfAny (λ k. k < suc n) (cond b (some 0) (next o))
index-here true o n h = just (omega arith)
index-here false none n h = nothing
index-here false (some k) n h = let l : k < n = h.has k refl in just (omega arith)

pub index_below : (w : Name) (xs : List Name) → IfAny (λ n. n < length xs) (index_of w xs)
unfolding index_of
index_below w [] = nothing
index_below w (x ∷ xs) = index-here (same w x) (index_of w xs) (length xs) (index_below w xs)

-- what is found is of the family, and its number is below how many of its sort are declared
pub record NamedIn (ds : List Declaration) (f : Family) (d : Named) : Type 0 where
  pub family : family_of d.sort ≡ f
  pub number : d.number < count d.sort ds

count-below : (s : Sort) (v : Name) (e ds : List Declaration) → count s e < count s (e ++ (plain s v ∷ ds))
unfolding count names_of gather
count-below s v e ds =
    rw (gather_append (of_sort s) e (plain s v ∷ ds), length-append (gather (of_sort s) e) (gather (of_sort s) (plain s v ∷ ds)), sort-self s) (omega arith)

first-in : (f : Family) (w : Name) (e ds : List Declaration) → IfAny (NamedIn (e ++ ds) f) (first_from e ds f w)
unfolding first_from
first-in f w e [] = nothing
first-in f w e (class v ps ∷ ds) =
    subst (λ (xs : List Declaration). IfAny (NamedIn xs f) (first_from (e ++ (class v ps ∷ [])) ds f w)) (append_assoc e (class v ps ∷ []) ds)
    (first-in f w (e ++ (class v ps ∷ [])) ds)
first-in f w e (plain s v ∷ ds) =
    by (same_family f (family_of s)) (same w v) refl
    (subst (λ (xs : List Declaration). IfAny (NamedIn xs f) (first_from (e ++ (plain s v ∷ [])) ds f w)) (append_assoc e (plain s v ∷ []) ds)
    (first-in f w (e ++ (plain s v ∷ [])) ds))
  where
    by : (p q : Bool) → same_family f (family_of s) ≡ p → IfAny (NamedIn (e ++ (plain s v ∷ ds)) f) (first_from (e ++ (plain s v ∷ [])) ds f w)
        → IfAny (NamedIn (e ++ (plain s v ∷ ds)) f) (cond (p && q) (some (record { sort = s; number = count s e })) (first_from (e ++ (plain s v ∷ [])) ds f w))
    by false q h later = later
    by true false h later = later
    by true true h later = just (record { family = sym (family-same f (family_of s) h); number = count-below s v e ds })

-- a use with no dot in front that is in no block is tried as it is written
pub tried-once : (w : Name) → has_dot_in_front w ≡ false → tries [] w ≡ w ∷ []
unfolding tries outward
tried-once w h = rw h

-- what is found at the first of some names that has something is what one of them has
pub hit-any : {A : Type 0} (P : A → Type 0) (find : Name → Option A) → ((w : Name) → IfAny P (find w)) → (ws : List Name) → IfAny P (first_hit find ws)
unfolding first_hit
hit-any P find h [] = nothing
hit-any P find h (w ∷ ws) = or-else (find w) (first_hit find ws) (h w) (hit-any P find h ws)

module _ (ds : List Declaration) (path : List Name) where
  pub named_in : (f : Family) (w : Name) → IfAny (NamedIn ds f) ((environment_of ds path).find f w)
  unfolding environment_of
  named_in f w = hit-any (NamedIn ds f) (first_from [] ds f) (λ v. first-in f v [] ds) (tries path w)

  pub number-below : (s : Sort) (w : Name) → IfAny (λ n. n < count s ds) (number_in (environment_of ds path) s w)
  unfolding number_in
  number-below s w = and_then _ _ (named_in (family_of s) w) λ d h.
      if-given (same_sort s d.sort) d.number λ e. subst (λ (t : Sort). d.number < count t ds) (sym (sort-same s d.sort e)) h.number

  pub class-below : (w : Name) → IfAny (λ c. c < length (class_names ds)) ((environment_of ds path).class w)
  unfolding environment_of
  class-below w = hit-any _ (λ v. index_of v (class_names ds)) (λ v. index_below v (class_names ds)) (tries path w)

  pub permission-below : (c : ℕ) (w : Name) → IfAny (λ k. k < length (permissions ds c)) ((environment_of ds path).permission c w)
  unfolding environment_of
  permission-below c w = index_below w (permissions ds c)
