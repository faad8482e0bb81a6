-- `set_operators::exclusive_or` meets its contract, which is `combine`'s at its operator. Assumes nothing.
use Rattle.set_operators.specs.Operators.{combined}
use Rattle.bitset.specs.Sets.{symmetric_difference_of}
use Rattle.set_operators.proofs.exclusive_or.Goals as goal

pub returns : goal.returns
unfolding symmetric_difference_of combined
returns c = c.combine.ensures
