-- `words::of_nine` meets its contract: word by word. Assumes nothing.
use borrow.Author.Tests.{ne_eqb}
use Rattle.words.specs.Keys.{computing}
use Rattle.words.proofs.of_nine.Goals as goal

pub returns-then-low-eq-ROLEALLO : goal.returns-then-low-eq-ROLEALLO
unfolding computing
returns-then-low-eq-ROLEALLO c = rw (c.in-119.is, c.if-low-eq-ROLEALLO.true)

pub returns-else-low-eq-ROLEALLO : goal.returns-else-low-eq-ROLEALLO
unfolding computing
returns-else-low-eq-ROLEALLO c = rw (c.in-119.is, ne_eqb _ _ c.if-low-eq-ROLEALLO.false)

pub returns-then-low-eq-CONSTRAI : goal.returns-then-low-eq-CONSTRAI
unfolding computing
returns-then-low-eq-CONSTRAI c = rw (c.in-110.is, c.if-low-eq-CONSTRAI.true)

pub returns-else-low-eq-CONSTRAI : goal.returns-else-low-eq-CONSTRAI
unfolding computing
returns-else-low-eq-CONSTRAI c = rw (c.in-110.is, ne_eqb _ _ c.if-low-eq-CONSTRAI.false)

pub returns-in_default : goal.returns-in_default
unfolding computing
returns-in_default c = let r = c.in_default.in_default-own.rest in rw (ne_eqb _ _ r.0.1, ne_eqb _ _ r.1)
