-- `bitset::bit_of` meets its contract. Assumes nothing.
use Rattle.bitset.proofs.StoreLaws.{shift-byte}
use Rattle.bitset.proofs.bit_of.Goals as goal

pub returns : goal.returns
returns c = shift-byte c.args.n
