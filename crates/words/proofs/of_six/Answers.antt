-- `words::of_six` meets its contract: there is one such word. Assumes nothing.
use borrow.Author.Tests.{ne_eqb}
use Rattle.words.specs.Keys.{computing}
use Rattle.words.proofs.of_six.Goals as goal

pub returns-then-low-eq-INCOMP : goal.returns-then-low-eq-INCOMP
unfolding computing
returns-then-low-eq-INCOMP c = rw c.if-low-eq-INCOMP.true

pub returns-else-low-eq-INCOMP : goal.returns-else-low-eq-INCOMP
unfolding computing
returns-else-low-eq-INCOMP c = rw (ne_eqb _ _ c.if-low-eq-INCOMP.false)
