-- `lexer::counted_from` meets its contract: after a dot, or at the first byte. Assumes nothing.
use mathlib.Core.Path.{sym, ◌∙◌}
use mathlib.Core.Bool.{true, false}
use Rattle.lexer.proofs.Ends.{counted-at-byte, counted-at-end}
use Rattle.lexer.proofs.counted_from.Goals as goal

pub returns-then-text-at : goal.returns-then-text-at
returns-then-text-at c = sym (counted-at-end _ _ c.if-text-at.true)

pub returns-then-is_dot : goal.returns-then-is_dot
returns-then-is_dot c = sym (counted-at-byte _ _ true c.if-text-at.false (sym c.is_dot.ensures ∙ c.if-is_dot.true))

pub returns : goal.returns
returns c = sym (counted-at-byte _ _ false c.if-text-at.false (sym c.is_dot.ensures ∙ c.if-is_dot.false))
