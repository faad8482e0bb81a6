-- `lexer::step_between` meets its contract: each class by itself, and the tests of the level by their outcomes. Assumes nothing.
use native.Mathlib.Omega.{arith}
use borrow.Author.Tests.{lt-ltb, le-ltb, eq-eqb, ne_eqb}
use Rattle.lexer.specs.Scan.{max_level}
use Rattle.lexer.proofs.step_between.Goals as goal

pub returns-then-level-lt-MAX : goal.returns-then-level-lt-MAX
returns-then-level-lt-MAX c = λ at. rw (c.in-Open.is, lt-ltb c.args.level max_level (omega arith))

pub returns-then-level-eq0 : goal.returns-then-level-eq0
returns-then-level-eq0 c = λ at. rw (c.in-Close.is, eq-eqb _ _ c.if-level-eq0.true)

pub returns-then-level-eq0-2 : goal.returns-then-level-eq0-2
returns-then-level-eq0-2 c = λ at. rw (c.in-Letter.is, eq-eqb _ _ c.if-level-eq0-2.true)

pub returns-then-level-eq0-3 : goal.returns-then-level-eq0-3
returns-then-level-eq0-3 c = λ at. rw (c.in-Dot.is, eq-eqb _ _ c.if-level-eq0-3.true)

pub returns-in-Blank : goal.returns-in-Blank
returns-in-Blank c = λ at. rw c.in-Blank.is

pub returns-in-LineFeed : goal.returns-in-LineFeed
returns-in-LineFeed c = λ at. rw c.in-LineFeed.is

pub returns-in-Comment : goal.returns-in-Comment
returns-in-Comment c = λ at. rw c.in-Comment.is

pub returns-else-level-lt-MAX : goal.returns-else-level-lt-MAX
returns-else-level-lt-MAX c = λ at. rw (c.in-Open.is, le-ltb c.args.level max_level (omega arith))

pub returns-else-level-eq0 : goal.returns-else-level-eq0
returns-else-level-eq0 c = λ at. rw (c.in-Close.is, ne_eqb _ _ c.if-level-eq0.false)

pub returns-else-level-eq0-2 : goal.returns-else-level-eq0-2
returns-else-level-eq0-2 c = λ at. rw (c.in-Letter.is, ne_eqb _ _ c.if-level-eq0-2.false)

pub returns-else-level-eq0-3 : goal.returns-else-level-eq0-3
returns-else-level-eq0-3 c = λ at. rw (c.in-Dot.is, ne_eqb _ _ c.if-level-eq0-3.false)

pub returns-in-Digit : goal.returns-in-Digit
returns-in-Digit c = λ at. rw c.in-Digit.is

pub returns-in-Wrong : goal.returns-in-Wrong
returns-in-Wrong c = λ at. rw c.in-Wrong.is
