-- `relabel_statement::put_record` meets its contract: its two fields are one `put` of a record. Assumes nothing.
use Rattle.relabel_statement.proofs.RelabelAnswers.{recorded}
use Rattle.relabel_statement.proofs.put_record.Goals as goal

pub returns : goal.returns
returns c =
    recorded _ _ _ _ c.put2.ensures c.put2-2.ensures
