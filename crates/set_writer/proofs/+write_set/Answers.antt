-- `set_writer::write_set` meets its contract. It calls itself with one level less; between two operands, what is left of S is in the row at hand.
-- Assumes nothing.
use native.Mathlib.Omega.{arith}
use Rattle.items.proofs.Frames.{sees}
use Rattle.set_writer.proofs.SetOperands.{going, past_word, stop-word, stop-deep, past-part, stop-part, past-close, stop-end}
use Rattle.set_writer.proofs.+write_set.Goals as goal

pub overflow_add-end : goal.overflow_add-end
overflow_add-end t c = omega (arith, (sees c.next_item-item.ensures c.in-Word.is).ahead.3)

pub slice_bounds-name-end : goal.slice_bounds-name-end
slice_bounds-name-end t c = omega (arith, (sees c.next_item-item.ensures c.in-Word.is).ahead.3)

pub returns-in_err-unit-in-Word : goal.returns-in_err-unit-in-Word
returns-in_err-unit-in-Word t c =
    let o = c.loop-start.invariant _ (going _ _ _ c.set_start-begun.ensures c.put_unit-u.ensures) in
    let l = sees c.next_item-item.ensures c.in-Word.is in
    rw c.from_residual.ensures (stop-word o l c.reference.ensures c.in_err-unit-in-Word.was)

pub loop-start-smaller-in-Word : goal.loop-start-smaller-in-Word
loop-start-smaller-in-Word t c =
    let l = sees c.next_item-item.ensures c.in-Word.is in
    omega (arith, l.ahead.0, l.ahead.1)

pub loop-start-preserved-in-Word : goal.loop-start-preserved-in-Word
loop-start-preserved-in-Word t c before g =
    let l = sees c.next_item-item.ensures c.in-Word.is in
    past_word (c.loop-start.invariant before g) l c.reference.ensures c.in_ok-unit-in-Word.was
    c.put_unit-u-in-Word.ensures

pub returns-then-levels-eq0 : goal.returns-then-levels-eq0
returns-then-levels-eq0 t c =
    let o = c.loop-start.invariant _ (going _ _ _ c.set_start-begun.ensures c.put_unit-u.ensures) in
    let l = sees c.next_item-item.ensures c.in-Open.is in
    stop-deep o l c.if-levels-eq0.true

pub returns-in_err-operand-in-Open : goal.returns-in_err-operand-in-Open
returns-in_err-operand-in-Open t c =
    let o = c.loop-start.invariant _ (going _ _ _ c.set_start-begun.ensures c.put_unit-u.ensures) in
    let l = sees c.next_item-item.ensures c.in-Open.is in
    rw c.from_residual-in_err-operand-in-Open.ensures (stop-part o l c.if-levels-eq0.false c.write_set.ensures c.in_err-operand-in-Open.was)

pub loop-start-smaller : goal.loop-start-smaller
loop-start-smaller t c =
    let l = sees c.next_item-item.ensures c.in-Open.is in
    let g = c.in_ok-operand-in-Open.ensures.moves in
    omega (arith, l.ahead.0, g.less, g.fits)

pub loop-start-preserved : goal.loop-start-preserved
loop-start-preserved t c before g =
    let l = sees c.next_item-item.ensures c.in-Open.is in
    past-part (c.loop-start.invariant before g) l c.if-levels-eq0.false c.write_set.ensures c.in_ok-operand-in-Open.was

pub returns-in-Close : goal.returns-in-Close
returns-in-Close t c =
    let o = c.loop-start.invariant _ (going _ _ _ c.set_start-begun.ensures c.put_unit-u.ensures) in
    let l = sees c.next_item-item.ensures c.in-Close.is in
    past-close o l c.put_unit-to.ensures

pub returns-in-End : goal.returns-in-End
returns-in-End t c =
    let o = c.loop-start.invariant _ (going _ _ _ c.set_start-begun.ensures c.put_unit-u.ensures) in
    let l = sees c.next_item-item.ensures c.in-End.is in
    stop-end o l
