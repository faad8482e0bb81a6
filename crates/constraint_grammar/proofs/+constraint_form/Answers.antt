-- `constraint_grammar::constraint_form` meets its contract. It calls itself with one level less; what is left of the row decides, with the number of
-- operands so far. Assumes nothing.
use mathlib.Core.Path.{refl, sym, ◌∙◌}
use mathlib.Core.Bool.{true, false}
use mathlib.Core.List.{[], ◌∷◌}
use native.Mathlib.Omega.{arith}
use Rattle.items.proofs.Items.{sees, by_part, by-close, too-deep, alike}
use Rattle.items.proofs.Rows.{passes, refuses, refuse, at-close, beyond, after-word}
use Rattle.constraint_grammar.proofs.Expressions.{compares-row, joins-row, no-expression, part-operand, close-operand, end-operand, word-operand}
use Rattle.constraint_grammar.proofs.+constraint_form.Invariants.{left}
use Rattle.constraint_grammar.proofs.+constraint_form.Goals as goal

pub returns-in_default : goal.returns-in_default
returns-in_default t c = refuse (no-expression _ _ _ _ _ c.next_item.ensures c.in_default.not-Word)

pub returns-in_default-joins : goal.returns-in_default-joins
returns-in_default-joins t c =
    let l = sees c.next_item.ensures c.in-Word.is in
    after-word l (compares-row _ l _ (sym c.joins.ensures ∙ c.in_default-joins.is)) c.both_sides.ensures

pub loop-next-init : goal.loop-next-init
loop-next-init t c =
    let l = sees c.next_item.ensures c.in-Word.is in
    (omega (arith, l.ahead.0), sym l.end, joins-row _ l _ _ (sym c.joins.ensures ∙ c.in-Some.is))

pub returns-then-levels-eq0 : goal.returns-then-levels-eq0
returns-then-levels-eq0 t c =
    let l = sees c.next_item-in-loop-next.ensures c.in-Open.is in
    refuse (sym c.loop-next.invariant.2 ∙ too-deep (left _ _ _) _ l c.if-levels-eq0.true ∙ end-operand _ _ _)

pub overflow_add-count : goal.overflow_add-count
overflow_add-count t c =
    let l = sees c.next_item-in-loop-next.ensures c.in-Open.is in
    let g = passes c.in_ok-i-in-Open.ensures in
    omega (arith, c.loop-next.invariant.0, l.ahead.0, g.less, g.fits)

pub loop-next-smaller : goal.loop-next-smaller
loop-next-smaller t c =
    let l = sees c.next_item-in-loop-next.ensures c.in-Open.is in
    let g = passes c.in_ok-i-in-Open.ensures in
    omega (arith, l.ahead.0, g.less, g.fits)

pub loop-next-preserved : goal.loop-next-preserved
loop-next-preserved t c =
    let l = sees c.next_item-in-loop-next.ensures c.in-Open.is in
    let g = passes c.in_ok-i-in-Open.ensures in (
      omega (arith, c.loop-next.invariant.0, l.ahead.0, g.less),
      sym (beyond _ l g.end) ∙ c.loop-next.invariant.1,
      sym (by_part (left _ _ _) _ _ l g.end c.if-levels-eq0.false ∙ part-operand _ _ _ _ _ _ true g.good) ∙ c.loop-next.invariant.2,
    )

pub returns-in_err-i-in-Open : goal.returns-in_err-i-in-Open
returns-in_err-i-in-Open t c =
    let l = sees c.next_item-in-loop-next.ensures c.in-Open.is in
    rw c.from_residual.ensures
    (refuse
    (sym c.loop-next.invariant.2
    ∙ by_part (left _ _ _) _ _ l refl c.if-levels-eq0.false
    ∙ part-operand _ _ _ _ _ _ false (refuses c.in_err-i-in-Open.ensures)))

pub returns-in-Close : goal.returns-in-Close
returns-in-Close t c =
    let l = sees c.next_item-in-loop-next.ensures c.in-Close.is in
    at-close _ _ c.ended.ensures (sym c.loop-next.invariant.2 ∙ by-close (left _ _ _) _ l ∙ close-operand _ _ _) (sym c.loop-next.invariant.1 ∙ l.end)
    (omega (arith, c.loop-next.invariant.0, l.ahead.0)) l.ahead.1

pub returns-in-Word-next_item : goal.returns-in-Word-next_item
returns-in-Word-next_item t c =
    refuse
    (sym c.loop-next.invariant.2
    ∙ alike (left _ _ _) (λ f. false) _ _ _ (0 ∷ 3 ∷ []) _ (word-operand _ _ _, tt, tt, end-operand _ _ _) c.next_item-in-loop-next.ensures c.in-Word-next_item.in-Word-next_item-own.keys3)
