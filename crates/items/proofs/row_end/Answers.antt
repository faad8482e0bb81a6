-- `items::row_end` meets its contract: the end of the row by the tokens from the place reached on, where so many rows within it are open. Assumes nothing.
use mathlib.Core.Path.{sym, ◌∙◌}
use native.Mathlib.Omega.{arith}
use Rattle.lexer.specs.declared.Token.{Token}
use Rattle.lexer.proofs.Seen.{seen}
use Rattle.items.proofs.Ends.{whole_row, past_open, past-close, last-close, past_word, at-end}
use Rattle.items.proofs.row_end.Goals as goal

pub loop-place-init : goal.loop-place-init
loop-place-init c = (omega arith, whole_row _ _)

-- an open parenthesis
pub overflow_add-i : goal.overflow_add-i
overflow_add-i c =
    let s = seen _ _ _ (Token.Open c.in-Open.place) c.next.ensures c.in-Open.is in
    omega (arith, s.ahead)

pub overflow_add-inside : goal.overflow_add-inside
overflow_add-inside c =
    let s = seen _ _ _ (Token.Open c.in-Open.place) c.next.ensures c.in-Open.is in
    omega (arith, c.loop-place.invariant.0, s.ahead)

pub loop-place-smaller-in-Open : goal.loop-place-smaller-in-Open
loop-place-smaller-in-Open c =
    let s = seen _ _ _ (Token.Open c.in-Open.place) c.next.ensures c.in-Open.is in
    omega (arith, s.ahead)

pub loop-place-preserved-in-Open : goal.loop-place-preserved-in-Open
loop-place-preserved-in-Open c =
    let s = seen _ _ _ (Token.Open c.in-Open.place) c.next.ensures c.in-Open.is in
    (omega (arith, c.loop-place.invariant.0, s.ahead), sym (past_open _ _ _ _ s.tokens) ∙ c.loop-place.invariant.1)

-- a close
pub overflow_add-i-in-Close : goal.overflow_add-i-in-Close
overflow_add-i-in-Close c =
    let s = seen _ _ _ (Token.Close c.in-Close.place) c.next.ensures c.in-Close.is in
    omega (arith, s.ahead)

pub returns-then-inside-eq0 : goal.returns-then-inside-eq0
returns-then-inside-eq0 c =
    let s = seen _ _ _ (Token.Close c.in-Close.place) c.next.ensures c.in-Close.is in
    sym (last-close _ _ _ _ s.tokens c.if-inside-eq0.true) ∙ c.loop-place.invariant.1

pub loop-place-smaller-in-Close : goal.loop-place-smaller-in-Close
loop-place-smaller-in-Close c =
    let s = seen _ _ _ (Token.Close c.in-Close.place) c.next.ensures c.in-Close.is in
    omega (arith, s.ahead)

pub loop-place-preserved-in-Close : goal.loop-place-preserved-in-Close
loop-place-preserved-in-Close c =
    let s = seen _ _ _ (Token.Close c.in-Close.place) c.next.ensures c.in-Close.is in
    (omega (arith, c.loop-place.invariant.0, s.ahead), sym (past-close _ _ _ _ s.tokens c.if-inside-eq0.false) ∙ c.loop-place.invariant.1)

-- a word
pub overflow_add-i-in-Word : goal.overflow_add-i-in-Word
overflow_add-i-in-Word c =
    let s = seen _ _ _ (Token.Word c.in-Word.start c.in-Word.len) c.next.ensures c.in-Word.is in
    omega (arith, s.ahead)

pub loop-place-smaller : goal.loop-place-smaller
loop-place-smaller c =
    let s = seen _ _ _ (Token.Word c.in-Word.start c.in-Word.len) c.next.ensures c.in-Word.is in
    omega (arith, s.ahead)

pub loop-place-preserved : goal.loop-place-preserved
loop-place-preserved c =
    let s = seen _ _ _ (Token.Word c.in-Word.start c.in-Word.len) c.next.ensures c.in-Word.is in
    (omega (arith, c.loop-place.invariant.0, s.ahead), sym (past_word _ _ _ _ _ s.tokens) ∙ c.loop-place.invariant.1)

-- the end of the text
pub returns-in-End : goal.returns-in-End
returns-in-End c =
    let s = seen _ _ _ Token.End c.next.ensures c.in-End.is in
    sym (at-end _ _ _ s.tokens) ∙ c.loop-place.invariant.1
