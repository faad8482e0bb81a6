-- `symbols::name_of` meets its contract. The loop's invariant: the question among the entries from `at` on, the first of them at `at`, is
-- answered as among all. The measure is what is left of the section. Assumes nothing.
use Prim.Native.Nat.{◌-◌, ◌≤◌}
use Rattle.policy.specs.Questions.{name_from}
use Rattle.symbols.specs.Section.{entries_at}
use mathlib.Core.Path.{◌≡◌}
use Rattle.symbols.proofs.name_of.Given as goal

abbrev pub invariant-loop-s : goal.invariant-loop-s
invariant-loop-s l =
    (l.at ≤ l.last) × (name_from l.sort l.number l.at (entries_at l.table l.at l.last) ≡ name_from l.sort l.number l.start (entries_at l.table l.start l.end))

abbrev pub decreases-loop-s : goal.decreases-loop-s
decreases-loop-s l = l.last - l.at
