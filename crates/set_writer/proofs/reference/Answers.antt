-- `set_writer::reference` meets its contract: what the search finds is what `refer` says, and its unit goes by its sort. Assumes nothing.
use Rattle.set_writer.proofs.ReferenceLaws.{refers, too_large, a-thing, an-attribute}
use Rattle.set_writer.proofs.reference.Goals as goal

pub returns-then-number : goal.returns-then-number
returns-then-number c =
    refers c.lookup-found.ensures (rw c.in-Some.is (too_large c.in-Some.field-0.sort _ c.if-number.true))

pub returns-then-sort-lt-FIRST_ATTRIBUTE : goal.returns-then-sort-lt-FIRST_ATTRIBUTE
returns-then-sort-lt-FIRST_ATTRIBUTE c =
    refers c.lookup-found.ensures (rw c.in-Some.is (a-thing _ _ c.if-number.false c.if-sort-lt-FIRST_ATTRIBUTE.true))

pub returns-else-sort-lt-FIRST_ATTRIBUTE : goal.returns-else-sort-lt-FIRST_ATTRIBUTE
returns-else-sort-lt-FIRST_ATTRIBUTE c =
    refers c.lookup-found.ensures (rw c.in-Some.is (an-attribute _ _ c.if-number.false c.if-sort-lt-FIRST_ATTRIBUTE.false))

pub returns-in-None : goal.returns-in-None
returns-in-None c = refers c.lookup-found.ensures (rw c.in-None.is)
