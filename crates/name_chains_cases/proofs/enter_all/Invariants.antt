-- `name_chains_cases::enter_all`: the entries have room, and less of the section is left behind each.
use Rattle.std.proofs.Common.{◌≡◌, ◌≤◌, ◌-◌, length}
use Rattle.name_index.specs.Index.{index_bytes}
use Rattle.symbols.specs.Section.{name_bytes}
use Rattle.name_chains_cases.proofs.enter_all.Given as goal

abbrev pub invariant-loop-sort : goal.invariant-loop-sort
invariant-loop-sort l = (index_bytes ≡ length l.symbols) × (l.end ≤ name_bytes)

abbrev pub decreases-loop-sort : goal.decreases-loop-sort
decreases-loop-sort l = length l.section - l.at
