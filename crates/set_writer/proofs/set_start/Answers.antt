-- `set_writer::set_start` meets its contract: an operator at the start is before its operands; any other item is the first operand of a union.
-- Assumes nothing.
use mathlib.Core.Path.{refl}
use mathlib.Core.List.{[], ◌∷◌}
use Rattle.policy.specs.Grammar.{set_in}
use Rattle.items.proofs.Frames.{sees}
use Rattle.items.proofs.Items.{alike}
use Rattle.set_writer.proofs.FirstItems.{starts-operator, starts-name, unworded, starts_other}
use borrow.Enum.Refused.{opened}
use Rattle.set_writer.proofs.set_start.Goals as goal

pub returns-then-operator-eq-UNION : goal.returns-then-operator-eq-UNION
returns-then-operator-eq-UNION c =
    let l = sees c.next_item-item.ensures c.in-Word.is in
    starts-name _ l c.operator_of-operator.ensures c.if-operator-eq-UNION.true

pub returns-else-operator-eq-UNION : goal.returns-else-operator-eq-UNION
returns-else-operator-eq-UNION c =
    let l = sees c.next_item-item.ensures c.in-Word.is in
    starts-operator _ l c.operator_of-operator.ensures c.if-operator-eq-UNION.false

pub returns-in-Open : goal.returns-in-Open
unfolding set_in
returns-in-Open c = starts_other λ n. alike set_in unworded _ _ _ (1 ∷ 2 ∷ 3 ∷ []) n (tt, (λ x f g. refl), refl, refl) c.next_item-item.ensures (opened c.in-Open.in-Open-own.keys2)
