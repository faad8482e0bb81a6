-- `constraints::first_failing_relabel` meets its contract. The loop's invariant: the statements that are left, after those asked, decide as all do, where
-- the next of them has its rows from `row` on. Each way through a turn is one law of ScanLaws. Assumes nothing.
use Rattle.std.proofs.Common.{◌+◌, ◌-◌, ◌*◌, ◌≤◌, drop}
use Rattle.policy.specs.Sound.{relabel_at}
use Rattle.policy.specs.Deciding.{first_failing}
use Rattle.table_reader.specs.Records.{records}
use Rattle.constraints.specs.TableConstraints.{runs_from, relabels_in, relabel_names, relabel_holds}
use Rattle.constraints.proofs.ScanLaws.{Left}
use Rattle.constraints.proofs.first_failing_relabel.Given as goal

abbrev pub invariant-loop-number : goal.invariant-loop-number
invariant-loop-number l =
    (l.asked ≤ l.number)
    × Left 6 (relabel_names l.class) (relabel_holds l.table l.bodies l.sides)
    (first_failing 6 (relabel_names l.class) (relabel_holds l.table l.bodies l.sides) 0 (relabels_in l.table l.bodies)) l.asked l.number
    (runs_from l.row (records 4 relabel_at (l.bodies.count - l.number) (drop (l.bodies.statements + 4 * l.number) l.table)))
