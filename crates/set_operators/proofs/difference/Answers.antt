-- `set_operators::difference` meets its contract, which is `combine`'s at its operator. Assumes nothing.
use Rattle.set_operators.specs.Operators.{combined}
use Rattle.bitset.specs.Sets.{difference_of}
use Rattle.set_operators.proofs.difference.Goals as goal

pub returns : goal.returns
unfolding difference_of combined
returns c = c.combine.ensures
