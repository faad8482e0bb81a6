-- `sound_constraints::fits_mask` meets its contract; nothing is left of a mask after the shift exactly if it names no further permission. Assumes nothing.
use Prim.Native.Nat.{◌<◌}
use borrow.Author.Tests.{lt-ltb, le-leb}
use Rattle.sound_constraints.proofs.RowLaws.{mask_below, mask-shifted}
use native.Mathlib.Omega.{arith}
use Rattle.sound_constraints.proofs.fits_mask.Goals as goal

pub returns-then-declared-ge-MASK_BITS : goal.returns-then-declared-ge-MASK_BITS
returns-then-declared-ge-MASK_BITS c =
    let a = c.args in
    let some : 0 < a.constraint.mask = omega arith in
    rw (
      le-leb _ _ c.if-declared-ge-MASK_BITS.true,
      lt-ltb _ _ c.if-constraint-ne0.true.0,
      lt-ltb _ _ some,
      ← c.permissions_of-declared.ensures,
      mask_below a.constraint.mask c.permissions_of-declared.result (omega arith) c.if-declared-ge-MASK_BITS.true,
    )

pub returns-else-declared-ge-MASK_BITS : goal.returns-else-declared-ge-MASK_BITS
returns-else-declared-ge-MASK_BITS c =
    let a = c.args in
    let some : 0 < a.constraint.mask = omega arith in
    rw (
      lt-ltb _ _ c.if-constraint-ne0.true.0,
      lt-ltb _ _ some,
      ← c.permissions_of-declared.ensures,
      mask-shifted a.constraint.mask c.permissions_of-declared.result,
    )
