-- `code_reader::next_statement` meets its contract: a relation and a transition are passed over by their length, and any other statement up to the next tag.
-- Assumes nothing.
use native.Mathlib.Omega.{arith}
use mathlib.Core.Path.{sym, ◌∙◌}
use borrow.Author.Tests.{eq-eqb, ne_eqb}
use Rattle.code_reader.proofs.next_statement.Goals as goal

pub returns-then-is_relation : goal.returns-then-is_relation
returns-then-is_relation c = (rw (sym c.is_relation.ensures ∙ c.if-is_relation.true), omega arith)

pub returns-then-tag-eq-TRANSITION : goal.returns-then-tag-eq-TRANSITION
returns-then-tag-eq-TRANSITION c = (rw (sym c.is_relation.ensures ∙ c.if-is_relation.false, eq-eqb _ 4105 c.if-tag-eq-TRANSITION.true), omega arith)

pub returns : goal.returns
returns c = (
  rw (sym c.is_relation.ensures ∙ c.if-is_relation.false, ne_eqb _ 4105 c.if-tag-eq-TRANSITION.false) c.statement_end.ensures,
  omega (arith, c.statement_end.ensures),
)
