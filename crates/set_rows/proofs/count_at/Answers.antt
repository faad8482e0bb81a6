-- `set_rows::count_at` meets its contract, which is `count`'s on the part. Assumes nothing.
use native.Mathlib.Omega.{arith}
use Rattle.byte_slices.proofs.PartLaws.{length-part-le}
use Rattle.set_rows.proofs.count_at.Goals as goal

pub count-requires : goal.count-requires
count-requires c = rw c.part.ensures (omega (arith, length-part-le c.args.table.now c.args.o c.args.w))
