-- `lexer::next` meets its contract: the first of the tokens that are left at the place reached is the first of those from the place
-- asked on. Assumes nothing.
use Prim.Native.Nat.{◌+◌}
use mathlib.Core.Path.{refl, sym, ap, ◌∙◌}
use native.Mathlib.Omega.{arith}
use Rattle.lexer.specs.Class.{ends_comment}
use Rattle.lexer.specs.Token.{tokens_at, first_of, token_at}
use Rattle.lexer.specs.Answers.{ends_word}
use Rattle.lexer.proofs.Ends.{ahead}
use Rattle.lexer.proofs.Tokens.{blank-like, name-like, comment-like, turn, stop, last, skip, word-here}
use Rattle.lexer.proofs.next.Goals as goal

pub loop-i-init : goal.loop-i-init
unfolding token_at tokens_at
loop-i-init c = refl

pub loop-i-preserved-in-Blank : goal.loop-i-preserved-in-Blank
loop-i-preserved-in-Blank c =
    ap first_of (sym (turn _ c.loop-i.i _ _ c.loop-i-test.true c.class_of-class.ensures (blank-like c.loop-i.i c.class_of-class.result c.in-Blank.in-Blank-own.keys1)))
    ∙ c.loop-i.invariant

pub loop-i-smaller : goal.loop-i-smaller
loop-i-smaller c =
    omega (arith, c.comment_end-i.ensures, ahead c.args.text.now ends_comment (c.loop-i.i + 1))

pub loop-i-preserved : goal.loop-i-preserved
loop-i-preserved c =
    rw c.comment_end-i.ensures
    (ap first_of
    (sym
    (turn _ c.loop-i.i _ _ c.loop-i-test.true c.class_of-class.ensures (comment-like c.loop-i.i c.class_of-class.result c.in-Comment.is)
    ∙ skip c.args.text.now (c.loop-i.i + 1)))
    ∙ c.loop-i.invariant)

pub returns-in-Open : goal.returns-in-Open
returns-in-Open c =
    sym (stop _ c.loop-i.i _ _ c.loop-i-test.true c.class_of-class.ensures (rw c.in-Open.is)) ∙ c.loop-i.invariant

pub returns-in-Close : goal.returns-in-Close
returns-in-Close c =
    sym (stop _ c.loop-i.i _ _ c.loop-i-test.true c.class_of-class.ensures (rw c.in-Close.is)) ∙ c.loop-i.invariant

pub overflow_sub-result : goal.overflow_sub-result
overflow_sub-result c =
    omega (arith, c.word_end-end.ensures, ahead c.args.text.now ends_word (c.loop-i.i + 1))

pub returns-in-Letter : goal.returns-in-Letter
returns-in-Letter c =
    rw c.word_end-end.ensures
    (sym (word-here c.args.text.now c.loop-i.i)
    ∙ ap first_of (sym (turn _ c.loop-i.i _ _ c.loop-i-test.true c.class_of-class.ensures
    (name-like c.loop-i.i c.class_of-class.result c.in-Letter.in-Letter-own.keys5)))
    ∙ c.loop-i.invariant)

pub returns : goal.returns
returns c = sym (ap first_of (last _ c.loop-i.i c.loop-i-test.false)) ∙ c.loop-i.invariant
