-- `statement_code::put_unit` meets its contract: a store, or no room. Assumes nothing.
use Rattle.statement_code.proofs.UnitLaws.{stored, unstored}
use Rattle.statement_code.proofs.put_unit.Goals as goal

pub returns-then-at-code : goal.returns-then-at-code
returns-then-at-code c = stored _ _ _ c.if-at-code.true

pub returns : goal.returns
returns c = unstored _ _ _ c.if-at-code.false
