-- `words::of_sixteen` meets its contract: the words differ only in the first letters. Assumes nothing.
use borrow.Author.Tests.{ne_eqb}
use Rattle.words.specs.Keys.{computing}
use Rattle.words.proofs.of_sixteen.Goals as goal

pub returns-then-high-ne-IBUTESET : goal.returns-then-high-ne-IBUTESET
unfolding computing
returns-then-high-ne-IBUTESET c = rw (ne_eqb _ _ c.if-high-ne-IBUTESET.true)

pub returns-in-8247344779502121845 : goal.returns-in-8247344779502121845
unfolding computing
returns-in-8247344779502121845 c = rw (c.if-high-ne-IBUTESET.false, c.in-8247344779502121845.is)

pub returns-in-8247344779284475762 : goal.returns-in-8247344779284475762
unfolding computing
returns-in-8247344779284475762 c = rw (c.if-high-ne-IBUTESET.false, c.in-8247344779284475762.is)

pub returns-in-8247344779284740468 : goal.returns-in-8247344779284740468
unfolding computing
returns-in-8247344779284740468 c = rw (c.if-high-ne-IBUTESET.false, c.in-8247344779284740468.is)

pub returns-in_default : goal.returns-in_default
unfolding computing
returns-in_default c = let r = c.in_default.in_default-own.rest in rw (c.if-high-ne-IBUTESET.false, ne_eqb _ _ r.0.0.1, ne_eqb _ _ r.0.1, ne_eqb _ _ r.1)
