-- `bitset::count` meets its contract. The invariant: sum is how many of the numbers in the bytes passed the set has. Assumes nothing.
use Prim.Native.Nat.{◌*◌, ◌≤◌}
use mathlib.Core.Path.{◌≡◌}
use Rattle.bitset.specs.Sets.{count_below, member}
use Rattle.bitset.proofs.count.Given as goal

abbrev pub invariant-loop-b : goal.invariant-loop-b
invariant-loop-b l = (l.sum ≡ count_below (8 * l.b-index) (member l.set)) × (l.sum ≤ 8 * l.b-index)
