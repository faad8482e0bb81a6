-- `statement_reader::constrain` meets its contract: the record and the rows are those of the statements with it. Assumes nothing.
use mathlib.Core.Path.{sym}
use lib.Seq.{length-take-le}
use Rattle.statement_reader.specs.Memory.{constraint_room, row_room}
use Rattle.statement_reader.proofs.MemoryLaws.{front-lent}
use Rattle.statement_reader.proofs.StepLaws.{constrained-steps}
use Rattle.statement_reader.proofs.constrain.Goals as goal

pub slice_bounds-write_constrain-end-3 : goal.slice_bounds-write_constrain-end-3
slice_bounds-write_constrain-end-3 c = sym (length-take-le constraint_room c.args.constraints.now c.requires.0)

pub slice_bounds-write_constrain-end-5 : goal.slice_bounds-write_constrain-end-5
slice_bounds-write_constrain-end-5 c = sym (length-take-le row_room c.args.rows.now c.requires.1)

pub returns : goal.returns
returns c =
    λ place co. rw c.constrained_step.ensures
    (constrained-steps c.write_constrain-written.result
    (front-lent constraint_room c.args.constraints.now _ c.requires.0 c.constraints-1.given.0)
    (front-lent row_room c.args.rows.now _ c.requires.1 c.rows-1.given.0)
    c.write_constrain-written.ensures.writes)
