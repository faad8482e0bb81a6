-- `grammar::keyword_form` meets its contract. Assumes nothing.
use mathlib.Core.Logic.{inl, inr}
use Rattle.items.proofs.Counts.{trim-names}
use Rattle.grammar.proofs.keyword_form.Goals as goal

pub returns-in-Thing : goal.returns-in-Thing
returns-in-Thing c =
    elim c.in-Thing.is [
      | inl p ↦ rw (p.1, trim-names) c.names_form.ensures
      | inr p ↦ rw (p.1, trim-names) c.names_form.ensures
    ]

pub returns-in-Relation : goal.returns-in-Relation
returns-in-Relation c = rw (c.in-Relation.is, trim-names) c.names_form-in-Relation.ensures

pub returns-in-Transition : goal.returns-in-Transition
returns-in-Transition c = rw (c.in-Transition.is, trim-names) c.names_form-in-Transition.ensures
