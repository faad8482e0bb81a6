-- Among the entries of good declarations, permission number class x 32 + place is that place's permission of that class. By induction on
-- the declarations. Assumes nothing.
use Prim.Native.Nat.{ℕ, zero, suc, ◌+◌, ◌*◌, ◌/◌, ◌%◌, ◌<◌, ◌≤◌}
use native.Mathlib.Omega.{arith}
use native.Mathlib.Nat.{add-zero}
use mathlib.Core.Path.{◌≡◌, refl, sym, ap, ◌∙◌}
use mathlib.Core.Bool.{Bool, true, false}
use mathlib.Core.List.{List, [], ◌∷◌, ◌++◌}
use mathlib.Core.Option.{none}
use lib.Dec.{ltb}
use lib.ListN.{length, get_or, get_elem?, length-append}
use borrow.Author.Tests.{eq-eqb, ne_eqb, ltb-true, ltb-false}
use Rattle.policy.specs.Basics.{Name, gather, All}
use Rattle.policy.specs.Statements.{Declaration, plain, class, of_class, with_permissions, class_names, permissions}
use Rattle.policy.specs.Encode.{NameEntry, sort_code, permission_entries, entries_from, entries}
use Rattle.policy.specs.Sound.{good_from}
use Rattle.policy.proofs.Lists.{gather-over, gather-last}
use Rattle.policy.proofs.Counts.{FewPermissions, few-in-all}
use Rattle.policy.proofs.Sorts.{code_below}
use Rattle.table_laws.proofs.Numbered.{named}

-- a place among the permissions that start at b; a number after them
in-perms : (b : ℕ) (ps : List Name) (rest : List NameEntry) (j : ℕ) → j < length ps → named 7 (b + j) (permission_entries b ps ++ rest) ≡ get_elem? ps j
unfolding named permission_entries
in-perms b [] rest j h = absurd (omega arith)
in-perms b (p ∷ ps) rest zero h = rw (eq-eqb b (b + 0) (sym (add-zero b)))
in-perms b (p ∷ ps) rest (suc j) h =
    let same : b + suc j ≡ b + 1 + j = omega arith in
    rw (ne_eqb b (b + suc j) (λ x. omega arith)) (ap (λ (n : ℕ). named 7 n (permission_entries (b + 1) ps ++ rest)) same ∙ in-perms (b + 1) ps rest j (omega arith))

behind-perms : (b : ℕ) (ps : List Name) (rest : List NameEntry) (n : ℕ) → b + length ps ≤ n → named 7 n (permission_entries b ps ++ rest) ≡ named 7 n rest
unfolding named permission_entries
behind-perms b [] rest n h = refl
behind-perms b (p ∷ ps) rest n h = rw (ne_eqb b n (λ x. omega arith)) (behind-perms (b + 1) ps rest n (omega arith))

before-perms : (b : ℕ) (ps : List Name) (rest : List NameEntry) (n : ℕ) → n < b → named 7 n (permission_entries b ps ++ rest) ≡ named 7 n rest
unfolding named permission_entries
before-perms b [] rest n h = refl
before-perms b (p ∷ ps) rest n h = rw (ne_eqb b n (λ x. omega arith)) (before-perms (b + 1) ps rest n (omega arith))

past : {A : Type 0} (xs : List A) (k : ℕ) → length xs ≤ k → get_elem? xs k ≡ none
past [] k h = refl
past (x ∷ xs) zero h = absurd (omega arith)
past (x ∷ xs) (suc k) h = past xs k (omega arith)

-- how many classes there are after one more declaration
abbrev classes : List Declaration → ℕ
classes e = length (class_names e)

plain-classes : (e : List Declaration) (d : Declaration) → of_class d ≡ none → classes (e ++ (d ∷ [])) ≡ classes e
unfolding class_names
plain-classes e d h = ap length (gather-over of_class e d h)

class-classes : (e : List Declaration) (w : Name) (ps : List Name) → classes (e ++ (class w ps ∷ [])) ≡ classes e + 1
unfolding class_names
class-classes e w ps = ap length (gather-last of_class e (class w ps) w refl) ∙ length-append (gather of_class e) (w ∷ [])

-- numbers of earlier classes are not there
none_before : (e ds : List Declaration) (n : ℕ) → n < classes e * 32 → named 7 n (entries_from e ds) ≡ none
unfolding named entries_from
none_before e [] n h = refl
none_before e (plain s w ∷ ds) n h =
    rw (ne_eqb (sort_code s) 7 (λ x. omega (arith, code_below s)))
    (none_before (e ++ (plain s w ∷ [])) ds n (omega (arith, plain-classes e (plain s w) refl)))
none_before e (class w ps ∷ ds) n h =
    before-perms (classes e * 32) ps (entries_from (e ++ (class w ps ∷ [])) ds) n h
    ∙ none_before (e ++ (class w ps ∷ [])) ds n (omega (arith, class-classes e w ps))

permission-from : (e ds : List Declaration) → All FewPermissions ds → (m k : ℕ) → k < 32
    → named 7 ((classes e + m) * 32 + k) (entries_from e ds) ≡ get_elem? (get_or (gather with_permissions ds) m []) k
unfolding named entries_from gather
permission-from e [] h m k l = refl
permission-from e (plain s w ∷ ds) h m k l =
    rw (ne_eqb (sort_code s) 7 (λ x. omega (arith, code_below s)))
    (ap (λ (n : ℕ). named 7 ((n + m) * 32 + k) (entries_from (e ++ (plain s w ∷ [])) ds)) (sym (plain-classes e (plain s w) refl))
    ∙ permission-from (e ++ (plain s w ∷ [])) ds h.1 m k l)
permission-from e (class w ps ∷ ds) h zero k l = by (ltb k (length ps)) refl
  where
    rest : List NameEntry
    rest = entries_from (e ++ (class w ps ∷ [])) ds

    by : (b : Bool) → ltb k (length ps) ≡ b → named 7 ((classes e + 0) * 32 + k) (permission_entries (classes e * 32) ps ++ rest) ≡ get_elem? ps k
    by true q =
        ap (λ (n : ℕ). named 7 (n * 32 + k) (permission_entries (classes e * 32) ps ++ rest)) (add-zero (classes e)) ∙ in-perms (classes e * 32) ps rest k (ltb-true k (length ps) q)
    by false q =
        let short = ltb-false k (length ps) q in
        behind-perms (classes e * 32) ps rest ((classes e + 0) * 32 + k) (omega arith)
        ∙ none_before (e ++ (class w ps ∷ [])) ds ((classes e + 0) * 32 + k) (omega (arith, class-classes e w ps))
        ∙ sym (past ps k short)
permission-from e (class w ps ∷ ds) h (suc m) k l =
    let same : (classes e + suc m) * 32 + k ≡ (classes (e ++ (class w ps ∷ [])) + m) * 32 + k = omega (arith, class-classes e w ps) in
    behind-perms (classes e * 32) ps (entries_from (e ++ (class w ps ∷ [])) ds) ((classes e + suc m) * 32 + k) (omega (arith, h.0))
    ∙ ap (λ (n : ℕ). named 7 n (entries_from (e ++ (class w ps ∷ [])) ds)) same
    ∙ permission-from (e ++ (class w ps ∷ [])) ds h.1 m k l

-- permission number n
pub permission-named : (ds : List Declaration) → good_from [] ds ≡ true → (n : ℕ) → named 7 n (entries ds) ≡ get_elem? (permissions ds (n / 32)) (n % 32)
unfolding entries permissions class_names gather
permission-named ds h n =
    let whole : n ≡ (0 + n / 32) * 32 + n % 32 = omega arith in
    ap (λ (k : ℕ). named 7 k (entries_from [] ds)) whole ∙ permission-from [] ds (few-in-all [] ds h) (n / 32) (n % 32) (omega arith)
