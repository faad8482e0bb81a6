-- `clashes::stands_for` meets its contract, by cases of the two numbers. Assumes nothing.
use borrow.Author.Tests.{lt-ltb, le-ltb}
use Rattle.set_code.specs.Evaluation.{sets_in}
use Rattle.clashes.proofs.stands_for.Goals as goal

pub returns-then-thing-ge-MAX : goal.returns-then-thing-ge-MAX
returns-then-thing-ge-MAX c = rw (le-ltb _ 512 c.if-thing-ge-MAX.true)

pub returns-then-unit-lt-ATTRIBUTE : goal.returns-then-unit-lt-ATTRIBUTE
returns-then-unit-lt-ATTRIBUTE c = rw (lt-ltb _ 512 c.if-thing-ge-MAX.false, lt-ltb _ 1024 c.if-unit-lt-ATTRIBUTE.true)

pub returns : goal.returns
unfolding sets_in
returns c =
    rw (lt-ltb _ 512 c.if-thing-ge-MAX.false, le-ltb _ 1024 c.if-unit-lt-ATTRIBUTE.false, ← c.row_of.ensures) c.contains_at.ensures
