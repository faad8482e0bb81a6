-- `constraints::evaluate` meets its contract. The loop's invariant: the bits hold some stack, and the rows that are left, run from it, end
-- as all rows do from the empty one. Assumes nothing.
use Rattle.std.proofs.Common.{◌≡◌, ◌+◌, ◌-◌, ◌*◌, drop, ap, ◌∙◌, subst, arith}
use Rattle.policy.specs.Rows.{Row, top}
use Rattle.table_reader.specs.Records.{row_at}
use Rattle.table_reader.proofs.RecordLaws.{records-step, records-none}
use Rattle.constraints.specs.Stack.{code, bounded_run_row, bounded_run}
use Rattle.constraints.specs.TableConstraints.{view_in}
use Rattle.constraints.proofs.evaluate.Goals as goal

pub loop-number-preserved : goal.loop-number-preserved
unfolding bounded_run
loop-number-preserved c =
    let l = c.loop-number in
    let a = c.args in
    let v = view_in a.table.now a.bodies a.sides.now in
    let end = a.first + a.count in (
      bounded_run_row v (row_at (drop (a.bodies.rows + 6 * l.number) a.table.now)) l.invariant.0,
      subst (λ (r : Row). c.row_step-values.result.bits ≡ code (bounded_run_row v r l.invariant.0)) c.row_at-row.ensures (c.row_step-values.ensures l.invariant.0 l.invariant.1),
      rw (records-step 6 row_at a.table.now (a.bodies.rows + 6 * l.number) (a.bodies.rows + 6 * (l.number + 1)) (end - l.number) (end - (l.number + 1))
          (omega arith) (omega arith)) at l.invariant.2,
    )

pub returns : goal.returns
unfolding bounded_run
returns c =
    let l = c.loop-number in
    let a = c.args in
    c.result.ensures l.invariant.0 l.invariant.1
    ∙ ap top (rw (records-none 6 row_at a.table.now (a.bodies.rows + 6 * l.number) (a.first + a.count - l.number) (omega arith)) at l.invariant.2)
