-- `statement_writer::write_attribute_set` meets its contract: the head, the attribute's number and S. Assumes nothing.
use mathlib.Core.Path.{refl}
use mathlib.Core.Bool.{false}
use mathlib.Core.List.{[], ◌∷◌}
use Rattle.std.specs.Prelude.{None, Some}
use Rattle.items.proofs.Frames.{sees}
use Rattle.items.proofs.Items.{alike}
use Rattle.lexer.proofs.Trim.{starts_part}
use Rattle.statement_writer.proofs.SetStatements.{no-attribute, no_part, set-coded}
use borrow.Enum.Refused.{opened}
use Rattle.statement_writer.proofs.write_attribute_set.Goals as goal

pub returns-in_err-name : goal.returns-in_err-name
returns-in_err-name c =
    rw c.from_residual.ensures
    (no-attribute c.family_number-number.ensures.0 c.write_head-u.ensures c.write_name.ensures c.in_err-name.was)

pub returns-in_default : goal.returns-in_default
returns-in_default c =
    no_part c.family_number-number.ensures.0 c.write_head-u.ensures c.write_name.ensures c.in_ok-name.was
    (alike starts_part (λ f. false) _ _ _ (0 ∷ 2 ∷ 3 ∷ []) _ (λ s w f. refl, tt, refl, refl) c.next_item-item.ensures (opened c.in_default.in_default-own.keys2))

pub returns-in_err-set : goal.returns-in_err-set
returns-in_err-set c =
    rw c.from_residual-in_err-set.ensures
    (set-coded c.family_number-number.ensures.0 c.write_head-u.ensures c.write_name.ensures c.in_ok-name.was
    None (sees c.next_item-item.ensures c.in-Open.is) c.write_set.ensures c.in_err-set.was)

pub returns : goal.returns
returns c =
    set-coded c.family_number-number.ensures.0 c.write_head-u.ensures c.write_name.ensures c.in_ok-name.was
    (Some _) (sees c.next_item-item.ensures c.in-Open.is) c.write_set.ensures c.in_ok-set.was
