-- `bitset::contains` meets its contract: the code reads the bit that the definition names. Assumes nothing.
use Rattle.bitset.specs.Sets.{member, bit}
use Rattle.bitset.proofs.contains.Goals as goal

pub returns : goal.returns
unfolding member bit
returns c = rw c.byte.ensures
