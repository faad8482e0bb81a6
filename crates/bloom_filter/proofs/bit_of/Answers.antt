-- `bloom_filter::bit_of` meets its contract. Assumes nothing.
use mathlib.Core.Path.{refl}
use Rattle.bloom_filter.specs.Filter.{bit_of}
use Rattle.bloom_filter.proofs.bit_of.Goals as goal

pub returns : goal.returns
unfolding bit_of
returns c = refl
