-- `constraint_writer::put_row` meets its contract: four stores and the number's bytes are one `put` of a row's bytes (RowBytes). Assumes nothing.
use Rattle.constraint_writer.proofs.RowBytes.{stored}
use Rattle.constraint_writer.proofs.put_row.Goals as goal

pub returns : goal.returns
returns c =
    let a = c.args in
    stored a.rows.now a.row a.kind a.component a.operator a.number c.if-rows-row.false _ c.put2.ensures
