-- `table_writer::needed` meets its contract: the last body ends where the table does. Assumes nothing.
use Rattle.table_writer.proofs.BodyLengths.{few, ends}
use Rattle.table_writer.proofs.needed.Goals as goal

pub returns : goal.returns
returns c = record { says = λ p ok sizes. ends p ok c.args.sizes sizes _ (c.body_starts-places.ensures (few p ok c.args.sizes sizes)) }
