-- `table_names::tally` meets its contract: at each turn the invariant is that of proofs/TallyLaws. The measure is what is left of the section. Assumes nothing.
use Prim.Native.Nat.{◌-◌}
use Rattle.table_names.proofs.TallyLaws.{Tally}
use Rattle.table_names.proofs.tally.Given as goal

abbrev pub invariant-loop-sort : goal.invariant-loop-sort
invariant-loop-sort l =
    Tally l.table l.end l.at l.counts

abbrev pub decreases-loop-sort : goal.decreases-loop-sort
decreases-loop-sort l = l.end - l.at
