-- `constraint_writer::comparison` meets its contract: two words and a close, and one row by the three words. Assumes nothing.
use native.Mathlib.Omega.{arith}
use mathlib.Core.Path.{sym, ◌∙◌}
use Rattle.items.proofs.Frames.{sees}
use Rattle.constraint_writer.proofs.RowBytes.{all-kept}
use Rattle.constraint_writer.proofs.Operands.{compares-told}
use Rattle.constraint_writer.proofs.WrittenRows.{no-form}
use Rattle.constraint_writer.proofs.Comparisons.{first-missing, second-missing, close-missing, operator-missing, component-missing, not-declared, compared-row}
use borrow.Enum.Refused.{opened}
use Rattle.constraint_writer.proofs.comparison.Goals as goal

pub returns-in_default : goal.returns-in_default
returns-in_default c =
    no-form (all-kept _ _) (first-missing _ _ _ c.next_item-first.ensures (opened c.in_default.in_default-own.keys2))

pub returns-in_default-second : goal.returns-in_default-second
returns-in_default-second c =
    no-form (all-kept _ _) (second-missing _ (sees c.next_item-first.ensures c.in-Word.is) c.next_item-second.ensures (opened c.in_default-second.in_default-second-own.keys2))

pub returns-in_default-last : goal.returns-in_default-last
returns-in_default-last c =
    no-form (all-kept _ _)
    (close-missing _ (sees c.next_item-first.ensures c.in-Word.is)
    (sees c.next_item-second.ensures c.in-Word-second.is) c.next_item-last.ensures (opened c.in_default-last.in_default-last-own.keys2))

pub overflow_add-end : goal.overflow_add-end
overflow_add-end c =
    omega (arith, (sees c.next_item-second.ensures c.in-Word-second.is).ahead.3)

pub slice_bounds-name-end : goal.slice_bounds-name-end
slice_bounds-name-end c =
    omega (arith, (sees c.next_item-second.ensures c.in-Word-second.is).ahead.3)

pub returns-in_err-operator : goal.returns-in_err-operator
returns-in_err-operator c =
    let l = sees c.next_item-first.ensures c.in-Word.is in
    let l2 = sees c.next_item-second.ensures c.in-Word-second.is in
    let l3 = sees c.next_item-last.ensures c.in-Close.is in
    rw c.from_residual.ensures (no-form (all-kept _ _) (operator-missing l l2 l3 _ (sym c.in_err-operator.was ∙ c.operator_of.ensures)))

pub returns-in_err-side : goal.returns-in_err-side
returns-in_err-side c =
    let l = sees c.next_item-first.ensures c.in-Word.is in
    let l2 = sees c.next_item-second.ensures c.in-Word-second.is in
    let l3 = sees c.next_item-last.ensures c.in-Close.is in
    rw c.from_residual-in_err-side.ensures (no-form (all-kept _ _) (component-missing l l2 l3 _ (sym c.in_err-side.was ∙ c.component_of.ensures)))

pub returns-in_err-operand : goal.returns-in_err-operand
returns-in_err-operand c =
    let l = sees c.next_item-first.ensures c.in-Word.is in
    let l2 = sees c.next_item-second.ensures c.in-Word-second.is in
    let l3 = sees c.next_item-last.ensures c.in-Close.is in
    rw c.from_residual-in_err-operand.ensures
    (not-declared l l2 l3 _ (sym c.in_ok-operator.was ∙ c.operator_of.ensures) (sym c.in_ok-side.was ∙ c.component_of.ensures)
    (compares-told l2 c.operand_of.ensures c.in_err-operand.was))

pub overflow_add-result : goal.overflow_add-result
overflow_add-result c =
    let l = sees c.next_item-first.ensures c.in-Word.is in
    let l2 = sees c.next_item-second.ensures c.in-Word-second.is in
    let l3 = sees c.next_item-last.ensures c.in-Close.is in
    omega (arith, l.ahead.0, l2.ahead.0, l3.ahead.0, l3.ahead.1, c.requires)

pub returns : goal.returns
returns c =
    let l = sees c.next_item-first.ensures c.in-Word.is in
    let l2 = sees c.next_item-second.ensures c.in-Word-second.is in
    let l3 = sees c.next_item-last.ensures c.in-Close.is in
    compared-row l l2 l3 _ (sym c.in_ok-operator.was ∙ c.operator_of.ensures) (sym c.in_ok-side.was ∙ c.component_of.ensures)
    (compares-told l2 c.operand_of.ensures c.in_ok-operand.was) c.put_row.ensures
