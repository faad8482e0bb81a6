-- `bitset::insert` meets its contract: one byte is stored, or none where n is past the end. Assumes nothing.
use native.Mathlib.Omega.{arith}
use Rattle.bitset.proofs.StoreLaws.{insert-byte, insert-past}
use Rattle.bitset.proofs.insert.Goals as goal

pub returns-then-set-at : goal.returns-then-set-at
returns-then-set-at c = insert-past _ c.args.n (λ j. (c.slice_known-1.given j).fits) c.if-set-at.true

pub returns : goal.returns
returns c =
    rw c.bit_of-bit.ensures (insert-byte _ c.args.n (λ j. (c.slice_known-1.given j).fits) (omega arith))
