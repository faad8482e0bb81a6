-- `little_endian::get2` meets its contract: two bytes by their weights (WidthLaws). Assumes nothing.
use Prim.Native.Nat.{◌+◌}
use native.Mathlib.Omega.{arith}
use Rattle.little_endian.proofs.WidthLaws.{unle-two}
use Rattle.little_endian.proofs.get2.Goals as goal

pub returns : goal.returns
returns c =
    (omega (arith, unle-two c.args.at c.args.bytes.now, c.from.ensures, c.from-2.ensures), omega (arith, c.from.ensures, c.from-2.ensures, (c.type_inv.bytes c.args.at).fits, (c.type_inv.bytes (c.args.at + 1)).fits))
