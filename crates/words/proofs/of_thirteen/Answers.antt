-- `words::of_thirteen` meets its contract: one word ends with `trans`, and the others differ only in the first letters. Assumes nothing.
use borrow.Author.Tests.{ne_eqb}
use Rattle.words.specs.Keys.{computing}
use Rattle.words.proofs.of_thirteen.Goals as goal

pub returns-then-low-eq-VALIDATE : goal.returns-then-low-eq-VALIDATE
unfolding computing
returns-then-low-eq-VALIDATE c = rw (c.if-high-eq-TRANS.true, c.if-low-eq-VALIDATE.true)

pub returns-then-high-eq-TRANS : goal.returns-then-high-eq-TRANS
unfolding computing
returns-then-high-eq-TRANS c = rw (c.if-high-eq-TRANS.true, ne_eqb _ _ c.if-low-eq-VALIDATE.false)

pub returns-then-high-ne-IBUTE : goal.returns-then-high-ne-IBUTE
unfolding computing
returns-then-high-ne-IBUTE c = rw (ne_eqb _ _ c.if-high-ne-IBUTE.true, ne_eqb _ _ c.if-high-eq-TRANS.false)

pub returns-in-8247344779502121845 : goal.returns-in-8247344779502121845
unfolding computing
returns-in-8247344779502121845 c = rw (c.if-high-ne-IBUTE.false, c.in-8247344779502121845.is)

pub returns-in-8247344779284475762 : goal.returns-in-8247344779284475762
unfolding computing
returns-in-8247344779284475762 c = rw (c.if-high-ne-IBUTE.false, c.in-8247344779284475762.is)

pub returns-in-8247344779284740468 : goal.returns-in-8247344779284740468
unfolding computing
returns-in-8247344779284740468 c = rw (c.if-high-ne-IBUTE.false, c.in-8247344779284740468.is)

pub returns-in_default : goal.returns-in_default
unfolding computing
returns-in_default c =
    let r = c.in_default.in_default-own.rest in
    rw (c.if-high-ne-IBUTE.false, ne_eqb _ _ r.0.0.1, ne_eqb _ _ r.0.1, ne_eqb _ _ r.1)
