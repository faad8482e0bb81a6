-- `set_operators::intersection` meets its contract, which is `combine`'s at its operator. Assumes nothing.
use Rattle.set_operators.specs.Operators.{combined}
use Rattle.bitset.specs.Sets.{intersection_of}
use Rattle.set_operators.proofs.intersection.Goals as goal

pub returns : goal.returns
unfolding intersection_of combined
returns c = c.combine.ensures
