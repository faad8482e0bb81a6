-- `table_parts::name_place_in_sound` meets its contract: the names of body 1 are those of the image. Assumes nothing.
use Prim.Native.Nat.{◌<◌}
use Rattle.table_laws.proofs.ListLaws.{all-places}
use Rattle.soundness.proofs.SoundTable.{sound-table}
use Rattle.table_parts.proofs.AskedTable.{name-sound}
use Rattle.table_parts.proofs.name_place_in_sound.Goals as goal

pub returns-in-Some : goal.returns-in-Some
returns-in-Some c sound =
    let a = c.args in
    let bytes = all-places (λ k. k < 256) a.table.now 0 (λ i l. (c.shared_slice_known-1.given i).fits) in
    rw (
      ← name-sound a.table.now (sound-table a.table.now bytes sound) a.sort a.number,
      ← c.name_place-found.ensures,
      c.in-Some.is,
    )

pub returns-in-None : goal.returns-in-None
returns-in-None c sound =
    let a = c.args in
    let bytes = all-places (λ k. k < 256) a.table.now 0 (λ i l. (c.shared_slice_known-1.given i).fits) in
    rw (
      ← name-sound a.table.now (sound-table a.table.now bytes sound) a.sort a.number,
      ← c.name_place-found.ensures,
      c.in-None.is,
    )
