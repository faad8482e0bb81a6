-- `words::three` meets its contract: two letters, and one after them. Assumes nothing.
use Prim.Native.Nat.{◌+◌}
use native.Mathlib.Omega.{arith}
use Rattle.little_endian.proofs.WidthLaws.{unle-split, unle-byte}
use Rattle.words.proofs.three.Goals as goal

pub returns : goal.returns
returns c =
    let t = c.args.w.now in
    let at = c.args.at in
    omega (arith, unle-split 2 1 at t, unle-byte (at + 2) t, c.get2.ensures.0, c.wide.ensures.0)
