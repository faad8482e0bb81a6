-- `little_endian::get8` meets its contract: four bytes, and four after them (WidthLaws). Assumes nothing.
use native.Mathlib.Omega.{arith}
use Rattle.little_endian.proofs.WidthLaws.{unle-split}
use Rattle.little_endian.proofs.get8.Goals as goal

pub returns : goal.returns
returns c =
    omega (arith, unle-split 4 4 c.args.at c.args.bytes.now, c.get4.ensures.0, c.get4-2.ensures.0)
