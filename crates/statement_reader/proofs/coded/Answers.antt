-- `statement_reader::coded` meets its contract: the units are those of the statements with it. Assumes nothing.
use Rattle.statement_reader.proofs.StepLaws.{coded-steps}
use Rattle.statement_reader.proofs.coded.Goals as goal

pub returns : goal.returns
returns c = λ cs rs. rw c.coded_step.ensures (coded-steps c.args.kind c.write_coded-written.result c.write_coded-written.ensures)
