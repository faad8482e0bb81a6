-- `lexer::closed_at` meets its contract: no parenthesis is open, or some are. Assumes nothing.
use borrow.Author.Tests.{eq-eqb, ne_eqb}
use Rattle.lexer.proofs.closed_at.Goals as goal

pub returns-then-level-eq0 : goal.returns-then-level-eq0
returns-then-level-eq0 c = rw (eq-eqb _ _ c.if-level-eq0.true)

pub returns : goal.returns
returns c = rw (ne_eqb _ _ c.if-level-eq0.false)
