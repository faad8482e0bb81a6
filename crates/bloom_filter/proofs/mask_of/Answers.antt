-- `bloom_filter::mask_of` meets its contract: the three bits in one word. Assumes nothing.
use Rattle.bloom_filter.specs.Filter.{mask_of}
use Rattle.bloom_filter.proofs.mask_of.Goals as goal

pub returns : goal.returns
unfolding mask_of
returns c = rw (c.bit_of.ensures, c.bit_of-2.ensures, c.bit_of-3.ensures)
