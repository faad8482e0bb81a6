-- `name_chains::find_in_section` meets its contract. The loop's invariant: the try among the entries from `at` on, after those that were compared, answers
-- as the try among all. The measure is what is left of the section. Assumes nothing.
use Prim.Native.Nat.{◌+◌, ◌-◌, ◌≤◌}
use mathlib.Core.Path.{◌≡◌}
use Rattle.symbols.specs.Section.{entries_at}
use Rattle.symbols.specs.Lookup.{first_named}
use Rattle.name_chains.specs.Compared.{compared_in}
use Rattle.name_chains.proofs.find_in_section.Given as goal

abbrev pub invariant-loop-sort : goal.invariant-loop-sort
invariant-loop-sort l =
    (l.compared ≤ l.at) × (first_named l.family l.name (entries_at l.table l.at l.end) ≡ first_named l.family l.name (entries_at l.table l.start l.end))
    × (l.compared + compared_in l.family l.name (entries_at l.table l.at l.end) ≡ compared_in l.family l.name (entries_at l.table l.start l.end))

abbrev pub decreases-loop-sort : goal.decreases-loop-sort
decreases-loop-sort l = l.end - l.at
