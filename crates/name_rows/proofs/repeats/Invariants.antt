-- `name_rows::repeats` meets its contract. The loop's invariant is that of proofs/RepeatLaws: the names passed differ, and their first eight bytes are
-- kept. Assumes nothing.
use Prim.Native.Nat.{◌-◌}
use lib.ListN.{length}
use Rattle.name_rows.proofs.RepeatLaws.{Passed}
use Rattle.name_rows.proofs.repeats.Given as goal

abbrev pub invariant-loop-word : goal.invariant-loop-word
invariant-loop-word l = Passed l.text l.at l.fronts l.count l.i

abbrev pub decreases-loop-word : goal.decreases-loop-word
decreases-loop-word l = length l.text - l.i
