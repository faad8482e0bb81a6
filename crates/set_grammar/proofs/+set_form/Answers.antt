-- `set_grammar::set_form` meets its contract. It calls itself with one level less; what is left of the row decides, with the operands so far.
-- Assumes nothing.
use mathlib.Core.Path.{refl, sym, ◌∙◌}
use mathlib.Core.Bool.{true, false}
use native.Mathlib.Omega.{arith}
use Rattle.items.proofs.Items.{reads, by_word, by_part, by-close, by_end, too-deep}
use Rattle.items.proofs.Rows.{passes, refuses, refuse, at-close, beyond}
use Rattle.set_grammar.proofs.Sets.{starts, word-operand, part-operand, close-operand, end-operand}
use Rattle.set_grammar.proofs.+set_form.Invariants.{left}
use Rattle.set_grammar.proofs.+set_form.Goals as goal

pub loop-start-init : goal.loop-start-init
loop-start-init t c =
    let b = starts c.set_start-begun.ensures in
    (omega (arith, b.ahead), b.end, b.row _)

pub is_name-requires : goal.is_name-requires
is_name-requires t c = (reads c.next.ensures c.in-Word.is).ahead.3

pub returns-then-not-is_name : goal.returns-then-not-is_name
returns-then-not-is_name t c =
    let l = reads c.next.ensures c.in-Word.is in
    let no_name = sym c.if-not-is_name.true ∙ c.is_name.ensures in
    refuse (sym c.loop-start.invariant.2 ∙ by_word (left _ _) _ l ∙ word-operand _ _ _ _ _ false no_name)

pub overflow_add-i : goal.overflow_add-i
overflow_add-i t c =
    let l = reads c.next.ensures c.in-Word.is in
    omega (arith, l.ahead.1)

pub overflow_add-count : goal.overflow_add-count
overflow_add-count t c =
    let l = reads c.next.ensures c.in-Word.is in
    omega (arith, c.loop-start.invariant.0, l.ahead.0, l.ahead.1)

pub loop-start-smaller-in-Word : goal.loop-start-smaller-in-Word
loop-start-smaller-in-Word t c =
    let l = reads c.next.ensures c.in-Word.is in
    omega (arith, l.ahead.0, l.ahead.1)

pub loop-start-preserved-in-Word : goal.loop-start-preserved-in-Word
loop-start-preserved-in-Word t c =
    let l = reads c.next.ensures c.in-Word.is in
    let named = sym c.if-not-is_name.false ∙ c.is_name.ensures in (
      omega (arith, c.loop-start.invariant.0, l.ahead.0),
      sym l.end ∙ c.loop-start.invariant.1,
      sym (by_word (left _ _) _ l ∙ word-operand _ _ _ _ _ true named) ∙ c.loop-start.invariant.2,
    )

pub returns-then-levels-eq0 : goal.returns-then-levels-eq0
returns-then-levels-eq0 t c =
    let l = reads c.next.ensures c.in-Open.is in
    refuse (sym c.loop-start.invariant.2 ∙ too-deep (left _ _) _ l c.if-levels-eq0.true ∙ end-operand _ _)

pub overflow_add-place : goal.overflow_add-place
overflow_add-place t c =
    let l = reads c.next.ensures c.in-Open.is in
    omega (arith, l.ahead.1)

pub overflow_add-count-in-Open : goal.overflow_add-count-in-Open
overflow_add-count-in-Open t c =
    let l = reads c.next.ensures c.in-Open.is in
    let g = passes c.in_ok-i-in-Open.ensures in
    omega (arith, c.loop-start.invariant.0, l.ahead.0, g.less, g.fits)

pub loop-start-smaller : goal.loop-start-smaller
loop-start-smaller t c =
    let l = reads c.next.ensures c.in-Open.is in
    let g = passes c.in_ok-i-in-Open.ensures in
    omega (arith, l.ahead.0, g.less, g.fits)

pub loop-start-preserved : goal.loop-start-preserved
loop-start-preserved t c =
    let l = reads c.next.ensures c.in-Open.is in
    let g = passes c.in_ok-i-in-Open.ensures in (
      omega (arith, c.loop-start.invariant.0, l.ahead.0, g.less),
      sym (beyond _ l g.end) ∙ c.loop-start.invariant.1,
      sym (by_part (left _ _) _ _ l g.end c.if-levels-eq0.false ∙ part-operand _ _ _ _ _ true g.good) ∙ c.loop-start.invariant.2,
    )

pub returns-in_err-i-in-Open : goal.returns-in_err-i-in-Open
returns-in_err-i-in-Open t c =
    let l = reads c.next.ensures c.in-Open.is in
    let bad = refuses c.in_err-i-in-Open.ensures in
    rw c.from_residual.ensures
    (refuse (sym c.loop-start.invariant.2 ∙ by_part (left _ _) _ _ l refl c.if-levels-eq0.false ∙ part-operand _ _ _ _ _ false bad))

pub overflow_add-place-in-Close : goal.overflow_add-place-in-Close
overflow_add-place-in-Close t c =
    omega (arith, (reads c.next.ensures c.in-Close.is).ahead.1)

pub returns-in-Close : goal.returns-in-Close
returns-in-Close t c =
    let l = reads c.next.ensures c.in-Close.is in
    at-close _ _ c.ended.ensures
    (sym c.loop-start.invariant.2 ∙ by-close (left _ _) _ l ∙ close-operand _ _)
    (sym c.loop-start.invariant.1 ∙ l.end)
    (omega (arith, c.loop-start.invariant.0, l.ahead.0))
    l.ahead.1

pub returns-in-End : goal.returns-in-End
returns-in-End t c =
    let l = reads c.next.ensures c.in-End.is in
    refuse (sym c.loop-start.invariant.2 ∙ by_end (left _ _) _ l ∙ end-operand _ _)
