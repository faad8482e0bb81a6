-- Finding a class, and a permission of a class, among the entries of declarations is resolving its name. By induction on the declarations,
-- from what is declared before. Assumes nothing.
use mathlib.Core.Path.{◌≡◌, refl, ap, ◌∙◌}
use mathlib.Core.List.{List, [], ◌∷◌, ◌++◌}
use Prim.Native.Nat.{ℕ, zero, suc, ◌+◌, ◌*◌, ◌/◌, ◌≤◌, ◌<◌}
use native.Mathlib.Omega.{arith}
use lib.ListN.{length, length-append}
use Rattle.policy.specs.Basics.{Name, is_in, index_of, gather, All}
use Rattle.policy.specs.Statements.{Sort, Declaration, plain, class, of_class, class_names, permissions}
use Rattle.policy.specs.Encode.{name_entry, permission_entries, entries_from, entries}
use Rattle.policy.proofs.Lists.{gather-over, gather-last}
use Rattle.symbols.specs.Lookup.{first_named}
use Rattle.std.specs.Prelude.{Option, Some, None, is_some}
use Rattle.std.specs.Option.{option_or}
use Rattle.symbols.specs.SearchAnswers.{found_number, found_class, found_permission, FewPermissions}
use Rattle.symbols.specs.declared.Symbol.{Symbol}
use Rattle.symbols.proofs.SearchLaws.{first-append, own-entry, found-index, found_in, permissions-other, permissions-own, skip-plain, after-class, skip-permissions}

-- ---- how many classes are declared before

pub classes-same : (e : List Declaration) (s : Sort) (v : Name) → length (class_names (e ++ (plain s v ∷ []))) ≡ length (class_names e)
unfolding class_names
classes-same e s v = ap length (gather-over of_class e (plain s v) refl)

pub classes-more : (e : List Declaration) (v : Name) (ps : List Name) → length (class_names (e ++ (class v ps ∷ []))) ≡ length (class_names e) + 1
unfolding class_names
classes-more e v ps = ap length (gather-last of_class e (class v ps) v refl) ∙ length-append (gather of_class e) (v ∷ [])

-- ---- classes

class-from : (w : Name) (e ds : List Declaration) → first_named 3 w (entries_from e ds) ≡ found_number 6 (length (class_names e)) (index_of w (class_names ds))
unfolding entries_from first_named class_names gather index_of
class-from w e [] = refl
class-from w e (plain s v ∷ ds) =
    skip-plain 3 w e s v ds (omega arith) ∙ class-from w (e ++ (plain s v ∷ [])) ds
    ∙ ap (λ (n : ℕ). found_number 6 n (index_of w (class_names ds))) (classes-same e s v)
class-from w e (class v ps ∷ ds) =
    own-entry 3 w (name_entry 6 (length (class_names e)) v) (permission_entries (length (class_names e) * 32) ps ++ entries_from (e ++ (class v ps ∷ [])) ds) refl
    ∙ found-index w 6 (length (class_names e)) v (class_names ds) (first_named 3 w (permission_entries (length (class_names e) * 32) ps ++ entries_from (e ++ (class v ps ∷ [])) ds))
    (first-append 3 w (permission_entries (length (class_names e) * 32) ps) (entries_from (e ++ (class v ps ∷ [])) ds)
    ∙ ap (λ (r : Option Symbol). option_or r (first_named 3 w (entries_from (e ++ (class v ps ∷ [])) ds))) (permissions-other 3 w (length (class_names e) * 32) ps (λ k l g q. omega arith))
    ∙ class-from w (e ++ (class v ps ∷ [])) ds ∙ ap (λ (n : ℕ). found_number 6 n (index_of w (class_names ds))) (classes-more e v ps))

-- family 3 answers as classes are looked up
pub find-class : (ds : List Declaration) (w : Name) → first_named 3 w (entries ds) ≡ found_class (index_of w (class_names ds))
unfolding entries class_names gather
find-class ds w = class-from w [] ds

pub class-found : (ds : List Declaration) (w : Name) → is_some (first_named 3 w (entries ds)) ≡ is_in w (class_names ds)
class-found ds w = ap is_some (find-class ds w) ∙ found_in w 6 0 (class_names ds)

-- ---- permissions: class k is the next one

pub or-none : (r : Option Symbol) → option_or r None ≡ r
or-none (Some x) = refl
or-none None = refl

-- no permission of another class has the class's family
other-class : (c k n : ℕ) → n ≤ 32 → (k ≡ c → ⊥) → (m : ℕ) → k * 32 ≤ m → m < k * 32 + n → 4 + m / 32 ≡ 4 + c → ⊥
other-class c k n h d m l g q = d (omega arith)

module _ (c : ℕ) (w : Name) where
  skip-class : (e : List Declaration) (v : Name) (ps : List Name) (ds : List Declaration) → length ps ≤ 32 → (length (class_names e) ≡ c → ⊥)
      → first_named (4 + c) w (entries_from e (class v ps ∷ ds)) ≡ first_named (4 + c) w (entries_from (e ++ (class v ps ∷ [])) ds)
  skip-class e v ps ds h d =
      skip-permissions (4 + c) w e v ps ds
      (permissions-other (4 + c) w (length (class_names e) * 32) ps (other-class c (length (class_names e)) (length ps) h d)) (λ q. omega arith)

  -- a class that is declared before has no permission left
  permission-gone : (e ds : List Declaration) → All FewPermissions ds → c < length (class_names e) → first_named (4 + c) w (entries_from e ds) ≡ None
  unfolding entries_from first_named
  permission-gone e [] few h = refl
  permission-gone e (plain s v ∷ ds) few h =
      skip-plain (4 + c) w e s v ds (omega arith) ∙ permission-gone (e ++ (plain s v ∷ [])) ds few.1 (omega (arith, classes-same e s v))
  permission-gone e (class v ps ∷ ds) few h =
      skip-class e v ps ds few.0 (λ q. omega arith) ∙ permission-gone (e ++ (class v ps ∷ [])) ds few.1 (omega (arith, classes-more e v ps))

  permission-from : (e ds : List Declaration) → All FewPermissions ds → (j : ℕ) → c ≡ length (class_names e) + j
      → first_named (4 + c) w (entries_from e ds) ≡ found_permission c (index_of w (permissions ds j))
  unfolding entries_from first_named permissions gather index_of
  permission-from e [] few j h = refl
  permission-from e (plain s v ∷ ds) few j h =
      skip-plain (4 + c) w e s v ds (omega arith) ∙ permission-from (e ++ (plain s v ∷ [])) ds few.1 j (omega (arith, classes-same e s v))
  permission-from e (class v ps ∷ ds) few (suc j) h =
      skip-class e v ps ds few.0 (λ q. omega arith)
      ∙ permission-from (e ++ (class v ps ∷ [])) ds few.1 j (omega (arith, classes-more e v ps))
  permission-from e (class v ps ∷ ds) few zero h =
      let k : length (class_names e) ≡ c = omega arith in
      after-class (4 + c) w e v ps ds (λ q. omega arith)
      ∙ ap (option_or (first_named (4 + c) w (permission_entries (length (class_names e) * 32) ps)))
      (permission-gone (e ++ (class v ps ∷ [])) ds few.1 (omega (arith, classes-more e v ps)))
      ∙ or-none (first_named (4 + c) w (permission_entries (length (class_names e) * 32) ps))
      ∙ rw k (permissions-own c w (c * 32) ps (omega arith) (omega (arith, few.0)))

-- family 4 + c answers as the permissions of class c are looked up
pub find-permission : (ds : List Declaration) (c : ℕ) (w : Name) → All FewPermissions ds
    → first_named (4 + c) w (entries ds) ≡ found_permission c (index_of w (permissions ds c))
unfolding entries class_names gather
find-permission ds c w few = permission-from c w [] ds few c (omega arith)

pub permission-found : (ds : List Declaration) (c : ℕ) (w : Name) → All FewPermissions ds
    → is_some (first_named (4 + c) w (entries ds)) ≡ is_in w (permissions ds c)
permission-found ds c w few = ap is_some (find-permission ds c w few) ∙ found_in w 7 (c * 32) (permissions ds c)
