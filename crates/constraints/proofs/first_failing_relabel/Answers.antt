-- `constraints::first_failing_relabel` meets its contract. The loop's invariant: the statements that are left, after those asked, decide as all do, where
-- the next of them has its rows from `row` on. Each way through a turn is one law of ScanLaws. Assumes nothing.
use Rattle.std.proofs.Common.{◌+◌, ◌-◌, ◌*◌, ◌%◌, ◌∷◌, drop, sym, subst, arith, eq-eqb, ne_eqb}
use Rattle.policy.specs.Encode.{RelabelRecord}
use Rattle.policy.specs.Sound.{relabel_at}
use Rattle.policy.specs.Deciding.{first_failing}
use Rattle.table_reader.specs.Records.{records}
use Rattle.table_reader.proofs.RecordLaws.{records-step, records-none}
use Rattle.constraints.specs.TableConstraints.{runs_from, relabels_in, relabel_names, relabel_holds}
use Rattle.constraints.proofs.ScanLaws.{Left, left-skip, left-pass, left-fail, left-none}
use Rattle.constraints.proofs.first_failing_relabel.Goals as goal
use Rattle.constraints.proofs.first_failing_relabel.Goals.{After-relabel_at-statement}

-- at a turn: the statement read is the first of those left, and the next has its rows after it
ahead : (c : After-relabel_at-statement) →
    let a = c.args in
    let l = c.loop-number in
    let n = relabel_names a.class in
    let h = relabel_holds a.table.now a.bodies a.sides.now in
    let read = c.relabel_at-statement.result in
    Left 6 n h (first_failing 6 n h 0 (relabels_in a.table.now a.bodies)) l.asked l.number
    (record { class = read.class; first = l.row; rows = read.rows }
    ∷ runs_from ((l.row + read.rows) % 65536) (records 4 relabel_at (a.bodies.count - (l.number + 1)) (drop (a.bodies.statements + 4 * (l.number + 1)) a.table.now)))
unfolding runs_from
ahead c =
    let a = c.args in
    let l = c.loop-number in
    let from = a.bodies.statements + 4 * (l.number + 1) in
    let n = relabel_names a.class in
    let h = relabel_holds a.table.now a.bodies a.sides.now in
    let later = records 4 relabel_at (a.bodies.count - (l.number + 1)) (drop from a.table.now) in
    subst
    (λ (x : RelabelRecord). Left 6 n h (first_failing 6 n h 0 (relabels_in a.table.now a.bodies)) l.asked l.number
    (record { class = x.class; first = l.row; rows = x.rows } ∷ runs_from ((l.row + x.rows) % 65536) later))
    (sym c.relabel_at-statement.ensures)
    (rw (records-step 4 relabel_at a.table.now (a.bodies.statements + 4 * l.number) from (a.bodies.count - l.number) (a.bodies.count - (l.number + 1))
    (omega arith) (omega arith)) at l.invariant.1)

pub loop-number-preserved-then-statement-class : goal.loop-number-preserved-then-statement-class
loop-number-preserved-then-statement-class c =
    let a = ahead (goal.at.loop-number-preserved-then-statement-class c).After-relabel_at-statement in (omega arith, left-skip _ _ _ a (ne_eqb _ _ c.if-statement-class.true))

pub returns-then-not-evaluate : goal.returns-then-not-evaluate
returns-then-not-evaluate c =
    left-fail _ _ _ (ahead (goal.at.returns-then-not-evaluate c).After-relabel_at-statement) (eq-eqb _ _ c.if-statement-class.false) (sym c.if-not-evaluate.ensures)

pub loop-number-preserved : goal.loop-number-preserved
loop-number-preserved c = (
  omega arith,
  left-pass _ _ _ (ahead (goal.at.loop-number-preserved c).After-relabel_at-statement) (eq-eqb _ _ c.if-statement-class.false) (sym c.if-not-evaluate.ensures),
)

pub returns : goal.returns
unfolding runs_from
returns c =
    let l = c.loop-number in
    let a = c.args in
    left-none _ _ _ (rw (records-none 4 relabel_at a.table.now (a.bodies.statements + 4 * l.number) (a.bodies.count - l.number) (omega arith)) at l.invariant.1)
