-- `set_rows::union_at` meets its contract, which is `combine_at`'s at its operator. Assumes nothing.
use Rattle.set_operators.specs.Operators.{combined}
use Rattle.bitset.specs.Sets.{union_of}
use Rattle.set_rows.proofs.union_at.Goals as goal

pub returns : goal.returns
unfolding union_of combined
returns c = c.combine_at.ensures
