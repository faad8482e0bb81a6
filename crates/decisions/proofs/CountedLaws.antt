-- What the count of a table's names tells is what a question asks of its names. Assumes nothing.
use Prim.Native.Nat.{ℕ, ◌<◌}
use native.Mathlib.Omega.{arith}
use mathlib.Core.Path.{◌≡◌, refl, sym, ap, ◌∙◌}
use mathlib.Core.List.{List}
use lib.Dec.{ltb}
use lib.ListN.{length, get_or}
use Rattle.std.specs.Prelude.{Option, Some, None}
use Rattle.bitset.proofs.SetLaws.{length-tabulate, get_d_tabulate}
use Rattle.policy.specs.Statements.{Declaration, class_names, permissions}
use Rattle.policy.specs.declared.NameCounts.{NameCounts}
use Rattle.table_laws.specs.SoundTable.{Bytes}
use Rattle.soundness.specs.TableCounts.{Tells}
use Rattle.soundness.proofs.CountedNames.{is-sound, counted-table, counted-names, counted-permissions, counts-are}
use Rattle.table_names.specs.TableNames.{permission_in, is_found_name}
use Rattle.decisions.specs.KnownNames.{Counts, Knows}
use Rattle.decisions.proofs.NameLaws.{permission-found, class-below}

module _ (t : List ℕ) (bytes : Bytes t) {ps : List ℕ} {r : Option NameCounts} (h : Tells t r ps) {n : NameCounts} (is : r ≡ Some n) where
  pub counts-known : Counts t n
  counts-known = record { sound = is-sound t bytes h is; counts = counts-are t bytes h is }

  -- nothing more has to be known: the names treated apart are looked at
  pub names-known : Knows t n None
  names-known = record { counted = counts-known; object = λ r l. refl; asks = λ c k l f. refl }

  abbrev held : List Declaration
  held = (counted-table t bytes h is).image.names

  pub permissions-length : length ps ≡ 32
  permissions-length = ap (λ (l : List ℕ). length l) (counted-permissions t bytes h is) ∙ length-tabulate 32 (λ c. length (permissions held c))

  -- a declared class has the permissions below their count
  pub has-permission : (c k : ℕ) → c < n.classes → ltb k (get_or ps c 0) ≡ is_found_name (permission_in t c k)
  has-permission c k l =
      let within : c < length (class_names held) = omega (arith, l, ap (λ (n : NameCounts). n.classes) (counted-names t bytes h is)) in
      ap (ltb k) (ap (λ (l : List ℕ). get_or l c 0) (counted-permissions t bytes h is)
      ∙ get_d_tabulate 32 (λ c. length (permissions held c)) c 0 (class-below t (counted-table t bytes h is) c within))
      ∙ sym (permission-found t (counted-table t bytes h is) c k within)
