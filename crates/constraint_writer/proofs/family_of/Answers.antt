-- `constraint_writer::family_of` meets its contract, by the number of the component. Assumes nothing.
use mathlib.Core.Path.{refl, sym, ◌∙◌}
use Rattle.constraint_writer.proofs.Operands.{family-is, two-of-users, two-of-roles, all-of-types}
use Rattle.constraint_writer.proofs.family_of.Goals as goal

pub returns-in_default : goal.returns-in_default
returns-in_default c =
    let others = c.in_default.in_default-own.rest in
    family-is _ (all-of-types _ c.in_default.if-component-lt4-own.false others.0.1 others.1)

pub returns-in-2 : goal.returns-in-2
returns-in-2 c f s d = family-is 7 refl f s (sym c.in-2.is ∙ d)

pub returns-in-2-2 : goal.returns-in-2-2
returns-in-2-2 c = family-is _ (two-of-roles _ c.in-2.if-component-lt2-own.false c.in-2.if-component-lt4-own.true)

pub returns-in-0 : goal.returns-in-0
returns-in-0 c f s d = family-is 6 refl f s (sym c.in-0.is ∙ d)

pub returns-in-0-2 : goal.returns-in-0-2
returns-in-0-2 c = family-is _ (two-of-users _ c.in-0.if-component-lt2-own.true)
