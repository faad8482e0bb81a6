-- `bitset::remove` meets its contract: one byte is stored, or none where n is past the end. Assumes nothing.
use native.Mathlib.Omega.{arith}
use Rattle.bitset.proofs.StoreLaws.{remove-byte, remove-past}
use Rattle.bitset.proofs.remove.Goals as goal

pub returns-then-set-at : goal.returns-then-set-at
returns-then-set-at c = remove-past _ c.args.n (λ j. (c.slice_known-1.given j).fits) c.if-set-at.true

pub returns : goal.returns
returns c =
    rw c.bit_of-bit.ensures (remove-byte _ c.args.n (λ j. (c.slice_known-1.given j).fits) (omega arith))
