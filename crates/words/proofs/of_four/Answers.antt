-- `words::of_four` meets its contract: word by word. Assumes nothing.
use borrow.Author.Tests.{ne_eqb}
use Rattle.words.specs.Keys.{computing}
use Rattle.words.proofs.of_four.Goals as goal

pub returns-in-1919251317 : goal.returns-in-1919251317
unfolding computing
returns-in-1919251317 c = rw c.in-1919251317.is

pub returns-in-1701605234 : goal.returns-in-1701605234
unfolding computing
returns-in-1701605234 c = rw c.in-1701605234.is

pub returns-in-1701869940 : goal.returns-in-1701869940
unfolding computing
returns-in-1701869940 c = rw c.in-1701869940.is

pub returns-in_default : goal.returns-in_default
unfolding computing
returns-in_default c = let r = c.in_default.in_default-own.rest in rw (ne_eqb _ _ r.0.0.1, ne_eqb _ _ r.0.1, ne_eqb _ _ r.1)
