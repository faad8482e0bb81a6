-- `statement_writer::write_head` meets its contract: two units, one after the other. Assumes nothing.
use Rattle.statement_writer.proofs.StatementUnits.{head-stored}
use Rattle.statement_writer.proofs.write_head.Goals as goal

pub returns : goal.returns
returns c = head-stored c.put_unit-u.ensures c.put_unit.ensures
