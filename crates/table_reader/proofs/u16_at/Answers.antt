-- `table_reader::u16_at` meets its contract: the two bytes, or the last byte alone, since past the end they read 0. Assumes nothing.
use Prim.Native.Nat.{◌+◌}
use native.Mathlib.Omega.{arith}
use Rattle.little_endian.proofs.WidthLaws.{unle-split, unle-byte, unle-past}
use Rattle.table_reader.proofs.u16_at.Goals as goal

pub returns-then-saturating_sub-lt2 : goal.returns-then-saturating_sub-lt2
returns-then-saturating_sub-lt2 c =
    let t = c.args.table.now in
    let at = c.args.at in
    omega (arith, unle-split 1 1 at t, unle-byte at t, unle-past 1 (at + 1) t (omega (arith, c.saturating_sub.ensures)))
