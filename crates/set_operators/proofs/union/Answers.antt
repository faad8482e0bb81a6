-- `set_operators::union` meets its contract, which is `combine`'s at its operator. Assumes nothing.
use Rattle.set_operators.specs.Operators.{combined}
use Rattle.bitset.specs.Sets.{union_of}
use Rattle.set_operators.proofs.union.Goals as goal

pub returns : goal.returns
unfolding union_of combined
returns c = c.combine.ensures
