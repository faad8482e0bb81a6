-- `name_rows::count_names` meets its contract. The loop's invariant: so many names are before the place. Assumes nothing.
use Prim.Native.Nat.{◌-◌}
use lib.ListN.{length}
use Rattle.name_rows.proofs.Rows.{Counted}
use Rattle.name_rows.proofs.count_names.Given as goal

abbrev pub invariant-loop-word : goal.invariant-loop-word
invariant-loop-word l = Counted l.text l.at l.i l.count

abbrev pub decreases-loop-word : goal.decreases-loop-word
decreases-loop-word l = length l.text - l.i
