-- How many entries of a sort there may be, and how many there are: counted entry by entry, and among the entries of declarations. Assumes nothing.
use Prim.Native.Nat.{ℕ, ◌+◌, ◌*◌}
use native.Mathlib.Omega.{arith}
use native.Mathlib.Nat.{add-zero, zero-add}
use mathlib.Core.Path.{◌≡◌, refl, sym, ap, ◌∙◌}
use mathlib.Core.Bool.{Bool, true, false, cond, false≢true}
use mathlib.Core.List.{List, [], ◌∷◌, ◌++◌}
use mathlib.Core.Option.{none, some}
use lib.Dec.{eqb}
use lib.ListN.{length}
use borrow.Author.Tests.{eq-eqb, ne_eqb}
use Rattle.policy.specs.Basics.{Name, gather, keep}
use Rattle.policy.specs.Statements.{users, roles, types, Sort, thing_of, attribute_of, Declaration, plain, class, same_sort, of_sort, of_class, names_of}
use Rattle.policy.specs.Statements.{count, class_names}
use Rattle.policy.specs.Maxima.{max_of}
use Rattle.policy.specs.Encode.{NameEntry, sort_code, permission_entries, entries_from, entries}
use Rattle.policy.proofs.Sameness.{sort-same, sort-self}
use Rattle.policy.proofs.Sorts.{code_below, code-sort}
use Rattle.symbols.specs.Section.{entries_at, EntryIs}
use Rattle.symbols.specs.declared.Entry.{Entry}
use Rattle.symbols.specs.Lookup.{most_of, count_sort}
use Rattle.symbols.proofs.FindLaws.{ahead}

-- THE MAXIMA

pub most-of : (s : Sort) → most_of (sort_code s) ≡ max_of s
most-of (thing_of users) = refl
most-of (thing_of roles) = refl
most-of (thing_of types) = refl
most-of (attribute_of users) = refl
most-of (attribute_of roles) = refl
most-of (attribute_of types) = refl

-- THE WALK

-- where no entry stands, none is left to count
pub count-ends : (x k : ℕ) (es : List NameEntry) (all : ℕ) → es ≡ [] → k + count_sort x es ≡ all → k ≡ all
unfolding count_sort
count-ends x k es all e h = sym (add-zero k) ∙ sym (ap (λ (l : List NameEntry). k + count_sort x l) e) ∙ h

module _ {t : List ℕ} {at end s n past : ℕ} (h : EntryIs t at end (Entry.Named s n past)) (x : ℕ) where
  pub count-passes : (s ≡ x → ⊥) → count_sort x (entries_at t past end) ≡ count_sort x (entries_at t at end)
  unfolding count_sort
  count-passes d = sym (ap (count_sort x) (ahead h) ∙ rw (ne_eqb s x d))

  pub count_meets : s ≡ x → (k : ℕ) → k + 1 + count_sort x (entries_at t past end) ≡ k + count_sort x (entries_at t at end)
  unfolding count_sort
  count_meets d k =
      let one : count_sort x (entries_at t at end) ≡ 1 + count_sort x (entries_at t past end) = ap (count_sort x) (ahead h) ∙ rw (eq-eqb s x d) in
      omega (arith, one)

-- AMONG DECLARATIONS

pub count-append : (x : ℕ) (xs ys : List NameEntry) → count_sort x (xs ++ ys) ≡ count_sort x xs + count_sort x ys
unfolding count_sort
count-append x [] ys = omega arith
count-append x (a ∷ xs) ys = by (eqb a.sort x) (count-append x xs ys)
  where
    by : (b : Bool) → count_sort x (xs ++ ys) ≡ count_sort x xs + count_sort x ys
        → cond b (1 + count_sort x (xs ++ ys)) (count_sort x (xs ++ ys)) ≡ cond b (1 + count_sort x xs) (count_sort x xs) + count_sort x ys
    by true e = omega (arith, e)
    by false e = e

-- permissions have a sort of their own
no-permissions : (x : ℕ) → (7 ≡ x → ⊥) → (n : ℕ) (ps : List Name) → count_sort x (permission_entries n ps) ≡ 0
unfolding count_sort permission_entries
no-permissions x h n [] = refl
no-permissions x h n (p ∷ ps) = rw (ne_eqb 7 x h) (no-permissions x h (n + 1) ps)

pub same_code : (s t : Sort) → eqb (sort_code t) (sort_code s) ≡ same_sort s t
same_code s t = by (same_sort s t) refl
  where
    by : (b : Bool) → same_sort s t ≡ b → eqb (sort_code t) (sort_code s) ≡ same_sort s t
    by true q = eq-eqb (sort_code t) (sort_code s) (ap sort_code (sym (sort-same s t q))) ∙ sym q
    by false q = ne_eqb (sort_code t) (sort_code s) other ∙ sym q
      where
        other : sort_code t ≡ sort_code s → ⊥
        other e = false≢true (sym q ∙ ap (same_sort s) (code-sort t s e) ∙ sort-self s)

things-from : (s : Sort) (e ds : List Declaration) → count_sort (sort_code s) (entries_from e ds) ≡ length (gather (of_sort s) ds)
unfolding count_sort entries_from gather
things-from s e [] = refl
things-from s e (plain t w ∷ ds) = rw (same_code s t) (by (same_sort s t) (things-from s (e ++ (plain t w ∷ [])) ds))
  where
    rest : List NameEntry
    rest = entries_from (e ++ (plain t w ∷ [])) ds

    by : (b : Bool) → count_sort (sort_code s) rest ≡ length (gather (of_sort s) ds)
        → cond b (1 + count_sort (sort_code s) rest) (count_sort (sort_code s) rest) ≡ length (keep (cond b (some w) none) (gather (of_sort s) ds))
    by true q = omega (arith, q)
    by false q = q
things-from s e (class w ps ∷ ds) =
    let n = length (class_names e) in
    rw (ne_eqb 6 (sort_code s) (λ x. omega (arith, code_below s)))
    (count-append (sort_code s) (permission_entries (n * 32) ps) (entries_from (e ++ (class w ps ∷ [])) ds)
    ∙ rw (no-permissions (sort_code s) (λ x. omega (arith, code_below s)) (n * 32) ps, zero-add) (things-from s (e ++ (class w ps ∷ [])) ds))

classes-from : (e ds : List Declaration) → count_sort 6 (entries_from e ds) ≡ length (gather of_class ds)
unfolding count_sort entries_from gather
classes-from e [] = refl
classes-from e (plain t w ∷ ds) = rw (ne_eqb (sort_code t) 6 (λ x. omega (arith, code_below t))) (classes-from (e ++ (plain t w ∷ [])) ds)
classes-from e (class w ps ∷ ds) =
    let n = length (class_names e) in
    let rest : count_sort 6 (permission_entries (n * 32) ps ++ entries_from (e ++ (class w ps ∷ [])) ds) ≡ length (gather of_class ds) =
    count-append 6 (permission_entries (n * 32) ps) (entries_from (e ++ (class w ps ∷ [])) ds)
    ∙ rw (no-permissions 6 (λ x. omega arith) (n * 32) ps, zero-add) (classes-from (e ++ (class w ps ∷ [])) ds) in
    omega (arith, rest)

-- the entries of a sort are the things of that sort; those of sort 6 are the classes
pub count-things : (s : Sort) (ds : List Declaration) → count_sort (sort_code s) (entries ds) ≡ count s ds
unfolding entries count names_of
count-things s ds = things-from s [] ds

pub count-classes : (ds : List Declaration) → count_sort 6 (entries ds) ≡ length (class_names ds)
unfolding entries class_names
count-classes ds = classes-from [] ds
