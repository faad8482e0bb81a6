-- `statement_reader::validatetrans` meets its contract: the record and the rows are those of the statements with it. Assumes nothing.
use Rattle.statement_reader.specs.Memory.{constraint_room, row_room}
use Rattle.statement_reader.proofs.MemoryLaws.{rest-lent}
use Rattle.statement_reader.proofs.StepLaws.{relabelled-steps}
use Rattle.statement_reader.proofs.validatetrans.Goals as goal

pub returns : goal.returns
returns c =
    λ place co. rw c.relabelled_step.ensures
    (relabelled-steps c.write_relabel-written.result
    (rest-lent constraint_room _ _ c.requires.0)
    (rest-lent row_room _ _ c.requires.1)
    c.write_relabel-written.ensures.writes)
