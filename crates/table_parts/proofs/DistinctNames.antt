-- No two entries of good declarations have one sort and number: numbers rise in each sort, and those of permissions from class to class. By
-- induction on the declarations. Assumes nothing.
use Prim.Native.Nat.{ℕ, ◌+◌, ◌*◌, ◌<◌, ◌≤◌}
use native.Mathlib.Omega.{arith}
use mathlib.Core.Path.{◌≡◌, refl, ap, ◌∙◌, subst}
use mathlib.Core.Bool.{Bool, true, cond}
use mathlib.Core.List.{List, [], ◌∷◌, ◌++◌}
use mathlib.Core.Option.{none, some}
use lib.ListN.{length, length-append}
use Rattle.policy.specs.Basics.{Name, gather, All}
use Rattle.policy.specs.Statements.{Sort, of_sort, of_class, Declaration, plain, class, names_of, class_names, count}
use Rattle.policy.specs.Encode.{NameEntry, name_entry, sort_code, permission_entries, entries_of, entries_from, entries}
use Rattle.policy.specs.Sound.{good_from}
use Rattle.policy.proofs.Lists.{gather_append, gather-last, all_append}
use Rattle.policy.proofs.Gathered.{all_map}
use Rattle.policy.proofs.Counts.{FewPermissions, few-in-all}
use Rattle.policy.proofs.Sameness.{sort-self}
use Rattle.policy.proofs.Sorts.{code_below, code-sort}

-- not of one sort and number
abbrev pub Apart : NameEntry → NameEntry → Type 0
Apart e f = f.sort ≡ e.sort → f.number ≡ e.number → ⊥

abbrev pub Distinct : List NameEntry → Type 0
Distinct [] = Unit {0}
Distinct (e ∷ es) = All (Apart e) es × Distinct es

-- an entry whose number is not one of those before
record From (e : List Declaration) (x : NameEntry) : Type 0 where
  things : (s : Sort) → x.sort ≡ sort_code s → count s e ≤ x.number
  classes : x.sort ≡ 6 → length (class_names e) ≤ x.number
  permissions : x.sort ≡ 7 → length (class_names e) * 32 ≤ x.number

count-grows : (s : Sort) (e : List Declaration) (d : Declaration) → count s e ≤ count s (e ++ (d ∷ []))
unfolding count names_of
count-grows s e d = omega (arith, ap (λ (l : List Name). length l) (gather_append (of_sort s) e (d ∷ [])), length-append (gather (of_sort s) e) (gather (of_sort s) (d ∷ [])))

classes-grow : (e : List Declaration) (d : Declaration) → length (class_names e) ≤ length (class_names (e ++ (d ∷ [])))
unfolding class_names
classes-grow e d = omega (arith, ap (λ (l : List Name). length l) (gather_append of_class e (d ∷ [])), length-append (gather of_class e) (gather of_class (d ∷ [])))

from-earlier : (e : List Declaration) (d : Declaration) (x : NameEntry) → From (e ++ (d ∷ [])) x → From e x
from-earlier e d x f = record {
  things = λ s q. omega (arith, f.things s q, count-grows s e d);
  classes = λ q. omega (arith, f.classes q, classes-grow e d);
  permissions = λ q. omega (arith, f.permissions q, classes-grow e d);
}

permissions-from : (e : List Declaration) (n : ℕ) → length (class_names e) * 32 ≤ n → (ps : List Name) → All (From e) (permission_entries n ps)
unfolding permission_entries
permissions-from e n h [] = tt
permissions-from e n h (p ∷ ps) = (
  record {
    things = λ s q. absurd (omega (arith, q, code_below s));
    classes = λ q. absurd (omega arith);
    permissions = λ q. h;
  },
  permissions-from e (n + 1) (omega arith) ps,
)

own-from : (e : List Declaration) (d : Declaration) → All (From e) (entries_of e d)
own-from e (plain s w) = (
  record {
    things = λ o q. subst (λ (o : Sort). count o e ≤ count s e) (code-sort s o q) (omega arith);
    classes = λ q. absurd (omega (arith, q, code_below s));
    permissions = λ q. absurd (omega (arith, q, code_below s));
  },
  tt,
)
own-from e (class w ps) = (
  record {
    things = λ s q. absurd (omega (arith, q, code_below s));
    classes = λ q. omega arith;
    permissions = λ q. absurd (omega arith);
  },
  permissions-from e (length (class_names e) * 32) (omega arith) ps,
)

all_from : (e ds : List Declaration) → All (From e) (entries_from e ds)
unfolding entries_from
all_from e [] = tt
all_from e (d ∷ ds) =
    all_append (From e) (entries_of e d) (entries_from (e ++ (d ∷ [])) ds) (own-from e d)
    (all_map (From (e ++ (d ∷ []))) (From e) (from-earlier e d) (entries_from (e ++ (d ∷ [])) ds) (all_from (e ++ (d ∷ [])) ds))

-- permissions of one class, before entries that come later
permissions-apart : (n m : ℕ) → n < m → (ps : List Name) (w : Name) → All (Apart (name_entry 7 n w)) (permission_entries m ps)
unfolding permission_entries
permissions-apart n m h [] w = tt
permissions-apart n m h (p ∷ ps) w = ((λ q r. omega arith), permissions-apart n (m + 1) (omega arith) ps w)

class-apart : (k : ℕ) (w : Name) (n : ℕ) (ps : List Name) → All (Apart (name_entry 6 k w)) (permission_entries n ps)
unfolding permission_entries
class-apart k w n [] = tt
class-apart k w n (p ∷ ps) = ((λ q r. omega arith), class-apart k w (n + 1) ps)

permissions-distinct : (n : ℕ) (ps : List Name) (es : List NameEntry) → All (λ (x : NameEntry). x.sort ≡ 7 → n + length ps ≤ x.number) es → Distinct es
    → Distinct (permission_entries n ps ++ es)
unfolding permission_entries
permissions-distinct n [] es h d = d
permissions-distinct n (p ∷ ps) es h d = (
  all_append (Apart (name_entry 7 n p)) (permission_entries (n + 1) ps) es (permissions-apart n (n + 1) (omega arith) ps p)
      (all_map (λ (x : NameEntry). x.sort ≡ 7 → n + length (p ∷ ps) ≤ x.number) (Apart (name_entry 7 n p)) (λ x f q r. omega (arith, f q)) es h),
  permissions-distinct (n + 1) ps es
      (all_map (λ (x : NameEntry). x.sort ≡ 7 → n + length (p ∷ ps) ≤ x.number) (λ (x : NameEntry). x.sort ≡ 7 → n + 1 + length ps ≤ x.number)
      (λ x f q. omega (arith, f q)) es h) d,
)

distinct_from : (e ds : List Declaration) → All FewPermissions ds → Distinct (entries_from e ds)
unfolding entries_from
distinct_from e [] h = tt
distinct_from e (plain s w ∷ ds) h =
    let later = e ++ (plain s w ∷ []) in (
      all_map (From later) (Apart (name_entry (sort_code s) (count s e) w)) (λ x f q r. omega (arith, f.things s q, one_more s e w)) (entries_from later ds) (all_from later ds),
      distinct_from later ds h.1,
    )
  where
    one_more : (s : Sort) (e : List Declaration) (w : Name) → count s (e ++ (plain s w ∷ [])) ≡ count s e + 1
    one_more s e w = unfold count names_of in
        (ap (λ (l : List Name). length l) (gather-last (of_sort s) e (plain s w) w (ap (λ (b : Bool). cond b (some w) none) (sort-self s)))
        ∙ length-append (gather (of_sort s) e) (w ∷ []))
distinct_from e (class w ps ∷ ds) h =
    let later = e ++ (class w ps ∷ []) in
    let rest = entries_from later ds in
    let k = length (class_names e) in (
      all_append (Apart (name_entry 6 k w)) (permission_entries (k * 32) ps) rest
          (class-apart k w (k * 32) ps)
          (all_map (From later) (Apart (name_entry 6 k w)) (λ x f q r. omega (arith, f.classes q, one_class e w ps)) rest (all_from later ds)),
      permissions-distinct (k * 32) ps rest
          (all_map (From later) (λ (x : NameEntry). x.sort ≡ 7 → k * 32 + length ps ≤ x.number)
          (λ x f q. omega (arith, f.permissions q, one_class e w ps, h.0)) rest (all_from later ds))
          (distinct_from later ds h.1),
    )
  where
    one_class : (e : List Declaration) (w : Name) (ps : List Name) → length (class_names (e ++ (class w ps ∷ []))) ≡ length (class_names e) + 1
    one_class e w ps = unfold class_names in
        (ap (λ (l : List Name). length l) (gather-last of_class e (class w ps) w refl) ∙ length-append (gather of_class e) (w ∷ []))

-- THE ENTRIES OF GOOD DECLARATIONS ARE DISTINCT
pub distinct : (ds : List Declaration) → good_from [] ds ≡ true → Distinct (entries ds)
unfolding entries
distinct ds h = distinct_from [] ds (few-in-all [] ds h)
