-- `constraint_writer::write_constraint` meets its contract. It calls itself with one level less. Before each operand and before the close the rows of
-- the operands so far are written (OperandRows's Loop); each row has a byte of the text of its own, so that no count passes what a usize holds.
-- Assumes nothing.
use mathlib.Core.List.{[], ◌∷◌}
use mathlib.Core.Option.{none}
use Rattle.policy.specs.Words.{three_sides}
use Rattle.policy.specs.Grammar.{expressions, expression_in}
use Rattle.items.proofs.Frames.{sees, around-of, too-deep}
use Rattle.items.proofs.Items.{alike}
use Rattle.constraint_writer.proofs.RowBytes.{all-kept}
use Rattle.constraint_writer.proofs.WrittenRows.{told, no-form, moved}
use Rattle.constraint_writer.proofs.ThreeSides.{of-any}
use Rattle.constraint_writer.proofs.OperandRows.{no_word, begun, compares, end_none, word_none}
use Rattle.constraint_writer.proofs.OperandRows.{no_operand, operand-done, operand-undeclared, finished}
use native.Mathlib.Omega.{arith}
use mathlib.Core.Path.{sym, ◌∙◌}
use borrow.Enum.Refused.{opened}
use Rattle.constraint_writer.proofs.+write_constraint.Goals as goal

pub returns-in_default : goal.returns-in_default
returns-in_default t c n =
    of-any _ n (no-form (all-kept _ _) (alike (expression_in three_sides) (λ f. none) _ _ _ (1 ∷ 2 ∷ 3 ∷ []) _ no_word c.next_item-first.ensures (opened c.in_default.in_default-own.keys2)))

pub comparison-requires : goal.comparison-requires
comparison-requires t c =
    let l = sees c.next_item-first.ensures c.in-Word.is in
    omega (arith, l.ahead.0, c.requires)

pub returns-in_default-kind_of : goal.returns-in_default-kind_of
returns-in_default-kind_of t c n =
    let l = sees c.next_item-first.ensures c.in-Word.is in
    of-any _ n (moved (sym (around-of l)) l.ahead.0 (compares l c.kind_of.ensures _ c.in_default-kind_of.is) c.comparison.ensures)

pub loop-inside-init : goal.loop-inside-init
loop-inside-init t c =
    let l = sees c.next_item-first.ensures c.in-Word.is in
    begun l c.kind_of.ensures _ c.in-Some.is

pub returns-then-levels-eq0 : goal.returns-then-levels-eq0
returns-then-levels-eq0 t c n =
    let l = sees c.next_item-item.ensures c.in-Open.is in
    of-any _ n (no_operand c.loop-inside.invariant (too-deep (expressions three_sides) _ l c.if-levels-eq0.true ∙ end_none))

pub write_constraint-requires : goal.write_constraint-requires
write_constraint-requires t c =
    let l = sees c.next_item-item.ensures c.in-Open.is in
    (omega arith, omega (arith, c.loop-inside.invariant.few, c.loop-inside.invariant.ahead, l.ahead.0, l.ahead.1, c.requires))

pub returns-in_err-operand-in-Open : goal.returns-in_err-operand-in-Open
returns-in_err-operand-in-Open t c n =
    let l = sees c.next_item-item.ensures c.in-Open.is in
    rw c.from_residual.ensures
    (of-any _ n (operand-undeclared c.loop-inside.invariant l c.if-levels-eq0.false
    (told (c.write_constraint.ensures three_sides) c.in_err-operand-in-Open.was)))

pub overflow_add-count : goal.overflow_add-count
overflow_add-count t c =
    let l = sees c.next_item-item.ensures c.in-Open.is in
    let w = told (c.write_constraint.ensures three_sides) c.in_ok-operand-in-Open.was in
    omega (arith, c.loop-inside.invariant.few-operands, l.ahead.0, w.reads.few-values, w.reads.fits)

pub overflow_add-count-in-Open : goal.overflow_add-count-in-Open
overflow_add-count-in-Open t c =
    let l = sees c.next_item-item.ensures c.in-Open.is in
    let w = told (c.write_constraint.ensures three_sides) c.in_ok-operand-in-Open.was in
    omega (arith, c.loop-inside.invariant.few-operands, l.ahead.0, w.reads.less, w.reads.fits)

pub loop-inside-smaller : goal.loop-inside-smaller
loop-inside-smaller t c =
    let l = sees c.next_item-item.ensures c.in-Open.is in
    let w = told (c.write_constraint.ensures three_sides) c.in_ok-operand-in-Open.was in
    omega (arith, l.ahead.0, w.reads.less, w.reads.fits)

pub loop-inside-preserved : goal.loop-inside-preserved
loop-inside-preserved t c =
    let l = sees c.next_item-item.ensures c.in-Open.is in
    let w = told (c.write_constraint.ensures three_sides) c.in_ok-operand-in-Open.was in
    operand-done c.loop-inside.invariant l c.if-levels-eq0.false w c.max-need.ensures

pub overflow_add-row : goal.overflow_add-row
overflow_add-row t c =
    let l = sees c.next_item-item.ensures c.in-Close.is in
    omega (arith, c.loop-inside.invariant.few, c.loop-inside.invariant.ahead, l.ahead.0, l.ahead.1, c.requires)

pub returns-in-Close : goal.returns-in-Close
returns-in-Close t c n =
    let l = sees c.next_item-item.ensures c.in-Close.is in
    of-any _ n (finished c.loop-inside.invariant l c.put_row.ensures)

pub returns-in-Word-item : goal.returns-in-Word-item
returns-in-Word-item t c n =
    of-any _ n (no_operand c.loop-inside.invariant
    (alike (expressions three_sides) (λ f. none) _ _ _ (0 ∷ 3 ∷ []) _ (word_none, tt, tt, end_none) c.next_item-item.ensures c.in-Word-item.in-Word-item-own.keys3))
