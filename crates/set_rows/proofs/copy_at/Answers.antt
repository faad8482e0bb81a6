-- `set_rows::copy_at` meets its contract, which is `combine_at`'s at its operator. Assumes nothing.
use Rattle.set_operators.specs.Operators.{combined}
use Rattle.bitset.specs.Sets.{copy_of}
use Rattle.set_rows.proofs.copy_at.Goals as goal

pub returns : goal.returns
unfolding copy_of combined
returns c = c.combine_at.ensures
