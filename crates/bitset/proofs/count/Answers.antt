-- `bitset::count` meets its contract. The invariant: sum is how many of the numbers in the bytes passed the set has. Assumes nothing.
use lib.ListN.{length}
use mathlib.Core.Path.{◌≡◌, refl}
use native.Mathlib.Omega.{arith}
use Rattle.bitset.proofs.CountLaws.{count-byte}
use Rattle.bitset.specs.Sets.{count_below, count}
use Rattle.bitset.proofs.count.Goals as goal

pub loop-b-init : goal.loop-b-init
unfolding count_below
loop-b-init c = (refl, omega arith)

pub loop-b-preserved : goal.loop-b-preserved
loop-b-preserved c =
    let l = c.loop-b in
    (omega (arith, count-byte c.args.set.now l.b-index (c.type_inv.set l.b-index).fits, l.invariant), omega (arith, l.invariant))

pub returns : goal.returns
unfolding count
returns c =
    let e : c.loop-b.b-index ≡ length c.args.set.now = omega arith in
    rw (← e) c.loop-b.invariant.0
