-- The entries of one more declaration, and of one more permission of a class. Assumes nothing.
use mathlib.Core.Path.{◌≡◌, refl, sym, ap, ◌∙◌}
use mathlib.Core.List.{List, [], ◌∷◌, ◌++◌, append-nil, append_assoc}
use Prim.Native.Nat.{ℕ, ◌+◌}
use native.Mathlib.Nat.{add-zero}
use native.Mathlib.Omega.{arith}
use lib.ListN.{length, get_or}
use lib.Seq.{get_or_at}
use Rattle.policy.specs.Basics.{Name, gather}
use Rattle.policy.specs.Statements.{Declaration, class, with_permissions, of_class, class_names, permissions}
use Rattle.policy.specs.Encode.{NameEntry, name_entry, permission_entries, entries_of, entries_from, entries}
use Rattle.policy.proofs.Lists.{gather-last}
use Rattle.policy.proofs.Counts.{class-lists}

entries-from-more : (e ds : List Declaration) (d : Declaration) → entries_from e (ds ++ (d ∷ [])) ≡ entries_from e ds ++ entries_of (e ++ ds) d
unfolding entries_from
entries-from-more e [] d = append-nil (entries_of e d) ∙ ap (λ (x : List Declaration). entries_of x d) (sym (append-nil e))
entries-from-more e (x ∷ ds) d =
    ap (λ (r : List NameEntry). entries_of e x ++ r)
    (entries-from-more (e ++ (x ∷ [])) ds d ∙ ap (λ (y : List Declaration). entries_from (e ++ (x ∷ [])) ds ++ entries_of y d) (append_assoc e (x ∷ []) ds))
    ∙ sym (append_assoc (entries_of e x) (entries_from (e ++ (x ∷ [])) ds) (entries_of (e ++ (x ∷ ds)) d))

-- a declaration's entries follow those of the declarations before it
pub entries-more : (ds : List Declaration) (d : Declaration) → entries (ds ++ (d ∷ [])) ≡ entries ds ++ entries_of ds d
unfolding entries
entries-more ds d = entries-from-more [] ds d

pub permission-more : (n : ℕ) (ps : List Name) (p : Name) → permission_entries n (ps ++ (p ∷ [])) ≡ permission_entries n ps ++ (name_entry 7 (n + length ps) p ∷ [])
unfolding permission_entries
permission-more n [] p = ap (λ (k : ℕ). name_entry 7 k p ∷ []) (sym (add-zero n))
permission-more n (x ∷ ps) p =
    ap (λ (r : List NameEntry). name_entry 7 n x ∷ r)
    (permission-more (n + 1) ps p ∙ ap (λ (k : ℕ). permission_entries (n + 1) ps ++ (name_entry 7 k p ∷ [])) (omega arith))

-- the class that is declared last
pub permissions-last : (ds : List Declaration) (v : Name) (ps : List Name) → permissions (ds ++ (class v ps ∷ [])) (length (class_names ds)) ≡ ps
unfolding permissions class_names
permissions-last ds v ps =
    ap (λ (xs : List (List Name)). get_or xs (length (gather of_class ds)) []) (gather-last with_permissions ds (class v ps) ps refl)
    ∙ get_or_at (gather with_permissions ds) ps [] [] (length (gather of_class ds)) (class-lists ds)
