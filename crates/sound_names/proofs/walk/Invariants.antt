-- `sound_names::walk` meets its contract: at each turn the invariant is that of proofs/WalkLaws, and the filter knows the entries passed.
-- Assumes nothing.
use Prim.Native.Nat.{◌-◌}
use Rattle.symbols.specs.Section.{entries_at}
use Rattle.sound_names.specs.Filter.{Knows}
use Rattle.sound_names.proofs.WalkLaws.{Walk}
use Rattle.sound_names.proofs.walk.Given as goal

abbrev pub invariant-loop-sort : goal.invariant-loop-sort
invariant-loop-sort l =
    Walk l.table l.start l.at l.end l.counts l.permissions × Knows l.filter (entries_at l.table l.start l.at)

abbrev pub decreases-loop-sort : goal.decreases-loop-sort
decreases-loop-sort l = l.end - l.at
