-- `table_summary::number_of` meets its contract: the names start and end where the header says. Assumes nothing.
use borrow.Author.Tests.{eq-eqb, ne_eqb}
use Rattle.table_summary.proofs.number_of.Goals as goal

pub returns-then-found_sort-sort : goal.returns-then-found_sort-sort
returns-then-found_sort-sort c =
    rw (
      ← c.names_end-end.ensures,
      ← c.names_start-start.ensures,
      ← c.find_in_section-tried.ensures.finds,
      c.in-Some.is,
      eq-eqb _ _ c.if-found_sort-sort.true,
    )

pub returns-else-found_sort-sort : goal.returns-else-found_sort-sort
returns-else-found_sort-sort c =
    rw (
      ← c.names_end-end.ensures,
      ← c.names_start-start.ensures,
      ← c.find_in_section-tried.ensures.finds,
      c.in-Some.is,
      ne_eqb _ _ c.if-found_sort-sort.false,
    )

pub returns-in-None : goal.returns-in-None
returns-in-None c =
    rw (← c.names_end-end.ensures, ← c.names_start-start.ensures, ← c.find_in_section-tried.ensures.finds, c.in-None.is)
