-- `symbols::most` meets its contract, test by test. Assumes nothing.
use borrow.Author.Tests.{lt-ltb, le-ltb, ne_eqb}
use Rattle.symbols.proofs.most.Goals as goal

pub returns-then-sort-eq-USER : goal.returns-then-sort-eq-USER
returns-then-sort-eq-USER c = rw c.if-sort-eq-USER.true

pub returns-then-sort-eq-ROLE : goal.returns-then-sort-eq-ROLE
returns-then-sort-eq-ROLE c = rw c.if-sort-eq-ROLE.true

pub returns-then-sort-eq-TYPE : goal.returns-then-sort-eq-TYPE
returns-then-sort-eq-TYPE c = rw c.if-sort-eq-TYPE.true

pub returns-then-sort-lt-CLASS : goal.returns-then-sort-lt-CLASS
returns-then-sort-lt-CLASS c = rw (ne_eqb _ 0 c.if-sort-eq-USER.false, ne_eqb _ 1 c.if-sort-eq-ROLE.false, ne_eqb _ 2 c.if-sort-eq-TYPE.false, lt-ltb _ 6 c.if-sort-lt-CLASS.true)

pub returns : goal.returns
returns c = rw (ne_eqb _ 0 c.if-sort-eq-USER.false, ne_eqb _ 1 c.if-sort-eq-ROLE.false, ne_eqb _ 2 c.if-sort-eq-TYPE.false, le-ltb _ 6 c.if-sort-lt-CLASS.false)
