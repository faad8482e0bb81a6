-- `set_operators::copy` meets its contract, which is `combine`'s at its operator. Assumes nothing.
use Rattle.set_operators.specs.Operators.{combined}
use Rattle.bitset.specs.Sets.{copy_of}
use Rattle.set_operators.proofs.copy.Goals as goal

pub returns : goal.returns
unfolding copy_of combined
returns c = c.combine.ensures
