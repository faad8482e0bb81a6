-- `grammar::content_form` meets its contract. Assumes nothing.
use Rattle.items.proofs.Counts.{trim-names}
use Rattle.grammar.proofs.content_form.Goals as goal

pub returns-in-Permissions : goal.returns-in-Permissions
returns-in-Permissions c = rw (c.in-Permissions.is, trim-names) c.names_form.ensures

pub returns-in-Set : goal.returns-in-Set
returns-in-Set c = rw c.in-Set.is c.set_form.ensures

pub returns-in-Constraint : goal.returns-in-Constraint
returns-in-Constraint c = rw c.in-Constraint.is c.constraint_form.ensures
