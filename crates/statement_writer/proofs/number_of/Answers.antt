-- `statement_writer::number_of` meets its contract: what the search finds, if it is of the sort. Assumes nothing.
use Rattle.statement_writer.proofs.NumberLaws.{numbers, other-sort, too_large, of-the-sort}
use Rattle.statement_writer.proofs.number_of.Goals as goal

pub returns-then-s-sort : goal.returns-then-s-sort
returns-then-s-sort c =
    numbers c.family_of-family.ensures c.lookup-found.ensures
    (rw c.in-Some.is (other-sort _ _ c.in-Some.field-0.number c.if-s-sort.true))

pub returns-then-number : goal.returns-then-number
returns-then-number c =
    numbers c.family_of-family.ensures c.lookup-found.ensures
    (rw c.in-Some.is (too_large _ _ _ c.if-s-sort.false c.if-number.true))

pub returns-else-number : goal.returns-else-number
returns-else-number c =
    numbers c.family_of-family.ensures c.lookup-found.ensures
    (rw c.in-Some.is (of-the-sort _ _ _ c.if-s-sort.false c.if-number.false))

pub returns-in-None : goal.returns-in-None
returns-in-None c = numbers c.family_of-family.ensures c.lookup-found.ensures (rw c.in-None.is)
