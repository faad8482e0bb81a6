-- `words::of_eight` meets its contract: word by word. Assumes nothing.
use borrow.Author.Tests.{ne_eqb}
use Rattle.words.specs.Keys.{computing}
use Rattle.words.proofs.of_eight.Goals as goal

pub returns-in-7308338832651678581 : goal.returns-in-7308338832651678581
unfolding computing
returns-in-7308338832651678581 c = rw c.in-7308338832651678581.is

pub returns-in-7309475736047087474 : goal.returns-in-7309475736047087474
unfolding computing
returns-in-7309475736047087474 c = rw c.in-7309475736047087474.is

pub returns-in_default : goal.returns-in_default
unfolding computing
returns-in_default c = let r = c.in_default.in_default-own.rest in rw (ne_eqb _ _ r.0.1, ne_eqb _ _ r.1)
