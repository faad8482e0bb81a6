-- `constraint_writer::operand_of` meets its contract: a name is found as it is resolved. Assumes nothing.
use mathlib.Core.Path.{sym, ◌∙◌}
use Rattle.constraint_writer.proofs.Operands.{a-side, a-thing, an-attribute, missing}
use Rattle.constraint_writer.proofs.operand_of.Goals as goal

pub returns-then-is_some : goal.returns-then-is_some
returns-then-is_some c = a-side _ _ _ _ _ c.component_of.ensures (sym c.is_some.ensures ∙ c.if-is_some.true)

pub returns-then-sort-lt-FIRST_ATTRIBUTE : goal.returns-then-sort-lt-FIRST_ATTRIBUTE
returns-then-sort-lt-FIRST_ATTRIBUTE c =
    a-thing _ _ _ _ _ c.component_of.ensures (sym c.is_some.ensures ∙ c.if-is_some.false) _ c.family_of.ensures _ c.lookup-found.ensures _ _
    c.in-Some.is c.if-sort-lt-FIRST_ATTRIBUTE.true

pub returns-else-sort-lt-FIRST_ATTRIBUTE : goal.returns-else-sort-lt-FIRST_ATTRIBUTE
returns-else-sort-lt-FIRST_ATTRIBUTE c =
    an-attribute _ _ _ _ _ c.component_of.ensures (sym c.is_some.ensures ∙ c.if-is_some.false) _ c.family_of.ensures _ c.lookup-found.ensures _ _
    c.in-Some.is c.if-sort-lt-FIRST_ATTRIBUTE.false

pub returns-in-None : goal.returns-in-None
returns-in-None c =
    missing _ _ _ _ _ c.component_of.ensures (sym c.is_some.ensures ∙ c.if-is_some.false) _ c.family_of.ensures _ c.lookup-found.ensures c.in-None.is
