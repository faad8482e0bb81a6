-- `name_index::word` meets its contract: four bytes, and after them four. Assumes nothing.
use Prim.Native.Nat.{◌+◌, ◌*◌}
use native.Mathlib.Omega.{arith}
use Rattle.byte_slices.specs.Parts.{part}
use Rattle.little_endian.proofs.WidthLaws.{unle-split}
use Rattle.name_index.specs.Index.{word_in}
use Rattle.symbols.specs.Section.{name_bytes}
use Rattle.name_index.proofs.word.Goals as goal

pub returns : goal.returns
unfolding word_in part
returns c =
    let a = c.args in
    omega (arith, unle-split 4 4 (name_bytes + 8 * a.k) a.symbols.now, c.get4.ensures.0, c.get4-2.ensures.0)
