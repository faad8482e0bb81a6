-- `constraint_grammar::compares` meets its contract: a name in the last place, or the two sides of a family. Assumes nothing.
use mathlib.Core.Path.{sym, ◌∙◌}
use borrow.Author.Tests.{ne_eqb}
use Rattle.constraint_grammar.proofs.ComparisonLaws.{compares-name, compares-nothing, compares-not, compares-roles, compares-others}
use Rattle.constraint_grammar.proofs.compares.Goals as goal

pub returns-then-is_component : goal.returns-then-is_component
returns-then-is_component c w k n =
    let is_name = sym c.if-named.true ∙ n in
    c.is_plain.ensures ∙ sym (compares-name _ _ _ w is_name (sym c.is_component.ensures ∙ c.if-is_component.true))

pub returns-else-is_component : goal.returns-else-is_component
returns-else-is_component c w k n =
    let is_name = sym c.if-named.true ∙ n in
    c.if-is_component.false ∙ sym (compares-nothing _ _ _ w is_name (sym c.is_component.ensures ∙ c.if-is_component.false))

pub returns-then-y-eq-R2 : goal.returns-then-y-eq-R2
returns-then-y-eq-R2 c w k n =
    let no_name = sym c.if-named.false ∙ n in
    c.is_operator.ensures ∙ sym (compares-roles _ _ _ _ w k no_name c.if-x-eq-R1.true ∙ rw c.if-y-eq-R2.true)

pub returns-else-y-eq-R2 : goal.returns-else-y-eq-R2
returns-else-y-eq-R2 c w k n =
    let no_name = sym c.if-named.false ∙ n in
    sym (compares-roles _ _ _ _ w k no_name c.if-x-eq-R1.true ∙ rw (ne_eqb _ _ c.if-y-eq-R2.false))

pub returns-then-are_sides : goal.returns-then-are_sides
returns-then-are_sides c w k n =
    let no_name = sym c.if-named.false ∙ n in
    let sides = sym (c.are_sides.ensures _) ∙ c.if-are_sides.true in
    c.is_plain-then-are_sides.ensures ∙ sym (compares-others _ _ _ _ w k no_name sides c.if-x-eq-R1.false)

pub returns-else-are_sides : goal.returns-else-are_sides
returns-else-are_sides c w k n =
    c.if-are_sides.false ∙ sym (compares-not _ _ _ _ w k (sym c.if-named.false ∙ n) (sym (c.are_sides.ensures _) ∙ c.if-are_sides.false))
