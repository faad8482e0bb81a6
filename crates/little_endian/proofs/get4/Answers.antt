-- `little_endian::get4` meets its contract: two bytes, and two after them (WidthLaws). Assumes nothing.
use native.Mathlib.Omega.{arith}
use Rattle.little_endian.proofs.WidthLaws.{unle-split}
use Rattle.little_endian.proofs.get4.Goals as goal

pub returns : goal.returns
returns c =
    (omega (arith, unle-split 2 2 c.args.at c.args.bytes.now, c.get2.ensures.0, c.get2-2.ensures.0), omega arith)
