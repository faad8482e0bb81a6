-- `statement_writer::write_attribute` meets its contract: the head with the family's tag. Assumes nothing.
use Rattle.statement_writer.proofs.StatementUnits.{tagged}
use Rattle.statement_writer.proofs.write_attribute.Goals as goal

pub returns : goal.returns
returns c = tagged 4096 c.family_number-tag.ensures.0 c.write_head.ensures
