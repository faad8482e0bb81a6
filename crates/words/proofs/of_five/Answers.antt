-- `words::of_five` meets its contract: word by word. Assumes nothing.
use borrow.Author.Tests.{ne_eqb}
use Rattle.words.specs.Keys.{computing}
use Rattle.words.proofs.of_five.Goals as goal

pub returns-in-521342381924 : goal.returns-in-521342381924
unfolding computing
returns-in-521342381924 c = rw c.in-521342381924.is

pub returns-in-495857003619 : goal.returns-in-495857003619
unfolding computing
returns-in-495857003619 c = rw c.in-495857003619.is

pub returns-in-461229747298 : goal.returns-in-461229747298
unfolding computing
returns-in-461229747298 c = rw c.in-461229747298.is

pub returns-in_default : goal.returns-in_default
unfolding computing
returns-in_default c = let r = c.in_default.in_default-own.rest in rw (ne_eqb _ _ r.0.0.1, ne_eqb _ _ r.0.1, ne_eqb _ _ r.1)
