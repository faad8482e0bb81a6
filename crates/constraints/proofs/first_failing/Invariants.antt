-- `constraints::first_failing` meets its contract. The loop's invariant: the constraints that are left, after those consulted, decide as all do, and the
-- first of them is of the class. Each way through a turn is one law of ScanLaws. The measure is the number of constraints left. Assumes nothing.
use Rattle.std.proofs.Common.{◌≡◌, ◌+◌, ◌-◌, ◌*◌, ◌<◌, ◌≤◌, drop}
use Rattle.policy.specs.Sound.{constraint_at}
use Rattle.policy.specs.Deciding.{first_failing}
use Rattle.constraints.specs.TableConstraints.{constraints_in, constraints_from, constraint_names, constraint_holds}
use Rattle.constraints.proofs.ScanLaws.{Left}
use Rattle.constraints.proofs.first_failing.Given as goal

abbrev pub invariant-loop-next : goal.invariant-loop-next
invariant-loop-next l =
    (l.next ≤ l.bodies.count)
    × (l.consulted ≤ l.next)
    × (l.next < l.bodies.count → (constraint_at (drop (l.bodies.statements + 10 * l.next) l.table)).class ≡ l.class)
    × Left 4 (constraint_names l.class l.permission) (constraint_holds l.table l.bodies l.sides)
    (first_failing 4 (constraint_names l.class l.permission) (constraint_holds l.table l.bodies l.sides) 0 (constraints_in l.table l.bodies)) l.consulted l.next
    (constraints_from l.table l.bodies.statements l.bodies.count l.next)

abbrev pub decreases-loop-next : goal.decreases-loop-next
decreases-loop-next l = l.bodies.count - l.next
