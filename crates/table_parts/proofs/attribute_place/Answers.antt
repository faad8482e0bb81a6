-- `table_parts::attribute_place` meets its contract: the counts of the names say how many sets there are of each family. Assumes nothing.
use Prim.Native.Nat.{◌<◌}
use native.Mathlib.Omega.{arith}
use mathlib.Core.Path.{◌∙◌}
use Rattle.table_laws.proofs.ListLaws.{all-places}
use Rattle.soundness.proofs.SoundTable.{sound-table}
use Rattle.table_parts.proofs.EntriesOn.{entry-8}
use Rattle.table_parts.proofs.attribute_place.Goals as goal

pub set_place-requires : goal.set_place-requires
set_place-requires c = (
  omega (arith, c.body_start-start.type_inv),
  omega (arith, c.min.ensures),
  omega (arith, c.min-2.ensures),
  omega (arith, c.min-3.ensures),
)

pub returns : goal.returns
returns c sound =
    let a = c.args in
    let t = a.table.now in
    let s = sound-table t (all-places (λ k. k < 256) t 0 (λ i l. (c.shared_slice_known-1.given i).fits)) sound in
    c.set_place.ensures
    ∙ rw (
      c.min.ensures,
      c.min-2.ensures,
      c.min-3.ensures,
      c.body_start-start.ensures,
      c.count_names-counts.ensures,
    )
    (entry-8 s a.place)
