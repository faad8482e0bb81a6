-- `set_rows::gap_from` meets its contract: the zeros below the lowest set bit are the numbers that are passed. Assumes nothing.
use Prim.Native.Nat.{◌+◌, ◌/◌, ◌%◌, ◌^◌}
use lib.Count.{trailing_le}
use native.Mathlib.Omega.{arith}
use Rattle.set_rows.proofs.GapLaws.{gap}
use Rattle.set_rows.proofs.gap_from.Goals as goal

pub overflow_cast-result : goal.overflow_cast-result
overflow_cast-result c = omega (arith, trailing_le 64 ((256 + c.byte.result) / 2 ^ (c.args.n % 8)))

pub returns : goal.returns
returns c =
    let a = c.args in
    rw c.byte.ensures (gap a.set.now a.n (c.shared_slice_known-1.given (a.n / 8)).fits)
