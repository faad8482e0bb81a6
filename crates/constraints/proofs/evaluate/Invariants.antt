-- `constraints::evaluate` meets its contract. The loop's invariant: the bits hold some stack, and the rows that are left, run from it, end
-- as all rows do from the empty one. Assumes nothing.
use Rattle.std.proofs.Common.{◌≡◌, ◌-◌, Bool, List, []}
use Rattle.constraints.specs.Stack.{code, bounded_run}
use Rattle.constraints.specs.TableConstraints.{view_in, rows_in}
use Rattle.constraints.proofs.evaluate.Given as goal

abbrev pub invariant-loop-number : goal.invariant-loop-number
invariant-loop-number l =
    (s : List Bool)
    × (l.values.bits ≡ code s)
    × (bounded_run (view_in l.table l.bodies l.sides) (rows_in l.table l.bodies l.number (l.end - l.number)) s ≡ bounded_run (view_in l.table l.bodies l.sides) (rows_in l.table l.bodies l.first l.count) [])
