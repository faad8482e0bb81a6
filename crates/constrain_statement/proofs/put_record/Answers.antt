-- `constrain_statement::put_record` meets its contract: its four fields are one `put` of a record (RecordBytes). Assumes nothing.
use Rattle.constrain_statement.proofs.RecordBytes.{stored}
use Rattle.constrain_statement.proofs.put_record.Goals as goal

pub returns : goal.returns
returns c =
    stored _ _ _ _ _ _ c.put2.ensures c.put4.ensures c.put2-2.ensures c.put2-3.ensures
