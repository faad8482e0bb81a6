-- The permissions of a class that is declared last: the index has room for them, and a chain for each. Assumes nothing.
use mathlib.Core.Path.{◌≡◌, sym, ap, subst, ◌∙◌}
use mathlib.Core.List.{List, [], ◌∷◌, ◌++◌, append_assoc}
use Prim.Native.Nat.{ℕ, ◌+◌, ◌*◌, ◌≤◌, ◌<◌}
use native.Mathlib.Omega.{arith}
use lib.ListN.{length, length-append}
use Rattle.policy.specs.Basics.{Name}
use Rattle.policy.specs.Statements.{Declaration, class_names}
use Rattle.policy.specs.Encode.{NameEntry, name_entry, permission_entries, entries}
use Rattle.symbols.proofs.DeclaredEntries.{permission-more}
use Rattle.table_laws.proofs.NamesRoom.{permissions-length}
use Rattle.declarations.specs.NewEntries.{Indexable}

module _ (ds : List Declaration) (v : Name) (small : length (class_names ds) < 32) (short : length (entries ds) ≤ 1983) where
  abbrev number : ℕ
  number = length (class_names ds)

  -- the entries of the declarations, of the class, and of its first permissions
  abbrev sofar : List Name → List NameEntry
  sofar qs = entries ds ++ (name_entry 6 number v ∷ permission_entries (number * 32) qs)

  sofar-long : (qs : List Name) → length (sofar qs) ≡ length (entries ds) + 1 + length qs
  sofar-long qs = omega (arith, length-append (entries ds) (name_entry 6 number v ∷ permission_entries (number * 32) qs), permissions-length (number * 32) qs)

  -- the permissions qs are before; ps are the others
  permissions-after : (qs ps : List Name) → length (qs ++ ps) ≤ 32 → Indexable (sofar qs) (permission_entries (number * 32 + length qs) ps)
  unfolding Indexable permission_entries
  permissions-after qs [] h = tt
  permissions-after qs (p ∷ ps) h =
      let long = length-append qs (p ∷ ps) in
      let next : sofar qs ++ (name_entry 7 (number * 32 + length qs) p ∷ []) ≡ sofar (qs ++ (p ∷ [])) =
      append_assoc (entries ds) (name_entry 6 number v ∷ permission_entries (number * 32) qs) (name_entry 7 (number * 32 + length qs) p ∷ [])
      ∙ ap (λ (es : List NameEntry). entries ds ++ (name_entry 6 number v ∷ es)) (sym (permission-more (number * 32) qs p)) in
      let joined : (qs ++ (p ∷ [])) ++ ps ≡ qs ++ (p ∷ ps) = append_assoc qs (p ∷ []) ps in
      let count : number * 32 + length (qs ++ (p ∷ [])) ≡ number * 32 + length qs + 1 = omega (arith, length-append qs (p ∷ [])) in (
        omega (arith, sofar-long qs),
        omega arith,
        omega arith,
        subst (λ (es : List NameEntry). Indexable es (permission_entries (number * 32 + length qs + 1) ps)) (sym next)
            (subst (λ (n : ℕ). Indexable (sofar (qs ++ (p ∷ []))) (permission_entries n ps)) count (permissions-after (qs ++ (p ∷ [])) ps (rw joined h))),
      )

  pub permissions-indexable : (ps : List Name) → length ps ≤ 32 → Indexable (entries ds ++ (name_entry 6 number v ∷ [])) (permission_entries (number * 32) ps)
  unfolding permission_entries
  permissions-indexable ps h =
      subst (λ (n : ℕ). Indexable (entries ds ++ (name_entry 6 number v ∷ [])) (permission_entries n ps)) (omega arith) (permissions-after [] ps h)
