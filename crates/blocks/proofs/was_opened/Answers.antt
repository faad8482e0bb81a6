-- `blocks::was_opened` meets its contract: the filter first, then the walk. Assumes nothing.
use borrow.Author.Tests.{not-true}
use Rattle.blocks.proofs.BlockFilter.{asked-filter, asked-walk}
use Rattle.blocks.proofs.was_opened.Goals as goal

pub returns-then-not-insert_in_filter : goal.returns-then-not-insert_in_filter
returns-then-not-insert_in_filter c = asked-filter c.insert_in_filter.ensures (not-true _ c.if-not-insert_in_filter.true-raw)

pub returns : goal.returns
returns c = asked-walk c.insert_in_filter.ensures c.is_opened.ensures
