-- `table_parts::set_place` meets its contract: one run after the other. Assumes nothing.
use mathlib.Core.Path.{sym, ◌∙◌}
use Rattle.table_parts.proofs.RecordLaws.{first_run, run_past}
use Rattle.table_parts.proofs.set_place.Goals as goal

pub returns-then-place-users : goal.returns-then-place-users
returns-then-place-users c = c.record_place.ensures ∙ first_run _ _ _ _ _ c.if-place-users.true

pub returns-then-later-roles : goal.returns-then-later-roles
returns-then-later-roles c = c.record_place-then-later-roles.ensures ∙ first_run _ _ _ _ _ c.if-later-roles.true ∙ sym (run_past _ _ _ _ _ c.if-place-users.false)

pub returns : goal.returns
returns c = c.record_place-2.ensures ∙ sym (run_past _ _ _ _ _ c.if-place-users.false ∙ run_past _ _ _ _ _ c.if-later-roles.false)
