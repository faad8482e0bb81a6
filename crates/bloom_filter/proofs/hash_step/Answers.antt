-- `bloom_filter::hash_step` meets its contract: no sum and no product of it passes 64 bits. Assumes nothing.
use borrow.Author.Rules.{rules}
use Rattle.bloom_filter.specs.Filter.{stepped}
use Rattle.bloom_filter.proofs.hash_step.Goals as goal

pub returns : goal.returns
unfolding stepped
returns c = search rules
