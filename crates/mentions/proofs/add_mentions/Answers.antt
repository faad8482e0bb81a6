-- `mentions::add_mentions` meets its contract, by those of its callees. Assumes nothing.
use Rattle.mentions.proofs.add_mentions.Goals as goal

pub returns : goal.returns
returns c = rw (c.add_row.ensures, c.mentioned.ensures)
