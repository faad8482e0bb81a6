-- `constrain_statement::permission_mask` meets its contract: what is left of the row adds to the mask so far. Assumes nothing.
use Rattle.items.proofs.Items.{sees}
use Rattle.constrain_statement.proofs.Masks.{one_more, not-of-class, finished, no_names}
use native.Mathlib.Omega.{arith}
use Rattle.constrain_statement.proofs.permission_mask.Goals as goal

pub overflow_add-end : goal.overflow_add-end
overflow_add-end c = omega (arith, (sees c.next_item-item.ensures c.in-Word.is).ahead.3)

pub slice_bounds-name-end : goal.slice_bounds-name-end
slice_bounds-name-end c = omega (arith, (sees c.next_item-item.ensures c.in-Word.is).ahead.3)

pub returns-in_default : goal.returns-in_default
returns-in_default c =
    let l = sees c.next_item-item.ensures c.in-Word.is in
    not-of-class c.loop-start.invariant l c.lookup_permission-found.ensures c.in_default.is

pub loop-start-smaller : goal.loop-start-smaller
loop-start-smaller c =
    let l = sees c.next_item-item.ensures c.in-Word.is in
    omega (arith, l.ahead.0, l.ahead.1)

pub loop-start-preserved : goal.loop-start-preserved
loop-start-preserved c =
    let l = sees c.next_item-item.ensures c.in-Word.is in
    one_more c.loop-start.invariant l c.lookup_permission-found.ensures c.in-Some.is c.with_permission-mask.ensures

pub returns-in-Close : goal.returns-in-Close
returns-in-Close c = finished c.loop-start.invariant (sees c.next_item-item.ensures c.in-Close.is)

pub returns-in-Open : goal.returns-in-Open
returns-in-Open c = no_names c.loop-start.invariant c.next_item-item.ensures c.in-Open.in-Open-own.keys3
