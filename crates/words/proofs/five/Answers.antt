-- `words::five` meets its contract: four letters, and one after them. Assumes nothing.
use Prim.Native.Nat.{◌+◌}
use native.Mathlib.Omega.{arith}
use Rattle.little_endian.proofs.WidthLaws.{unle-split, unle-byte}
use Rattle.words.proofs.five.Goals as goal

pub returns : goal.returns
returns c =
    let t = c.args.w.now in
    let at = c.args.at in
    omega (arith, unle-split 4 1 at t, unle-byte (at + 4) t, c.get4.ensures.0, c.wide.ensures.0)
