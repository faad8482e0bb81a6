-- `body_writer::append_byte` meets its contract: a store, or no room. Assumes nothing.
use Rattle.body_writer.proofs.PutLaws.{byte-stored, byte-unstored}
use Rattle.body_writer.proofs.append_byte.Goals as goal

pub returns-then-at-table : goal.returns-then-at-table
returns-then-at-table c = λ h. byte-stored _ _ _ h c.if-at-table.true

pub returns : goal.returns
returns c = λ h. byte-unstored _ _ _ h c.if-at-table.false
