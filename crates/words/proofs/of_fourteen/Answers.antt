-- `words::of_fourteen` meets its contract: there is one such word. Assumes nothing.
use borrow.Author.Tests.{ne_eqb}
use Rattle.words.specs.Keys.{computing}
use Rattle.words.proofs.of_fourteen.Goals as goal

pub returns-then-high-ne-SITION : goal.returns-then-high-ne-SITION
unfolding computing
returns-then-high-ne-SITION c = rw (ne_eqb _ _ c.if-high-ne-SITION.true)

pub returns-then-low-eq-ROLETRAN : goal.returns-then-low-eq-ROLETRAN
unfolding computing
returns-then-low-eq-ROLETRAN c = rw (c.if-high-ne-SITION.false, c.if-low-eq-ROLETRAN.true)

pub returns-else-low-eq-ROLETRAN : goal.returns-else-low-eq-ROLETRAN
unfolding computing
returns-else-low-eq-ROLETRAN c = rw (c.if-high-ne-SITION.false, ne_eqb _ _ c.if-low-eq-ROLETRAN.false)
