-- `words::six` meets its contract: four letters, and two after them. Assumes nothing.
use native.Mathlib.Omega.{arith}
use Rattle.little_endian.proofs.WidthLaws.{unle-split}
use Rattle.words.proofs.six.Goals as goal

pub returns : goal.returns
returns c =
    omega (arith, unle-split 4 2 c.args.at c.args.w.now, c.get4.ensures.0, c.get2.ensures.0)
