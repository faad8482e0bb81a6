-- `symbols::family_of` meets its contract: each branch is a case of `family_number`. Assumes nothing.
use borrow.Author.Tests.{eq-eqb, ne_eqb, lt-ltb, le-ltb}
use Rattle.symbols.proofs.family_of.Goals as goal

pub returns-then-sort-lt-FIRST_ATTRIBUTE : goal.returns-then-sort-lt-FIRST_ATTRIBUTE
returns-then-sort-lt-FIRST_ATTRIBUTE c = rw (lt-ltb _ _ c.if-sort-lt-FIRST_ATTRIBUTE.true)

pub returns-then-sort-lt-CLASS : goal.returns-then-sort-lt-CLASS
returns-then-sort-lt-CLASS c = rw (le-ltb _ _ c.if-sort-lt-FIRST_ATTRIBUTE.false, lt-ltb _ _ c.if-sort-lt-CLASS.true)

pub returns-then-sort-eq-CLASS : goal.returns-then-sort-eq-CLASS
returns-then-sort-eq-CLASS c = rw (le-ltb _ _ c.if-sort-lt-FIRST_ATTRIBUTE.false, le-ltb _ _ c.if-sort-lt-CLASS.false, eq-eqb _ _ c.if-sort-eq-CLASS.true)

pub returns : goal.returns
returns c = rw (le-ltb _ _ c.if-sort-lt-FIRST_ATTRIBUTE.false, le-ltb _ _ c.if-sort-lt-CLASS.false, ne_eqb _ _ c.if-sort-eq-CLASS.false)
