-- `table_parts::record_bytes` meets its contract: a width for each section whose records have one. Assumes nothing.
use Rattle.table_parts.proofs.EntriesOn.{no-width}
use Rattle.table_parts.proofs.record_bytes.Goals as goal

pub returns-in_default : goal.returns-in_default
returns-in_default c =
    let others = c.in_default.in_default-own.rest in
    no-width _ others.0.0.0.0.0.0.0.1 others.0.0.0.0.0.0.1 others.0.0.0.0.0.1 others.0.0.0.0.1 others.0.0.0.1
    others.0.0.1 others.0.1 others.1
