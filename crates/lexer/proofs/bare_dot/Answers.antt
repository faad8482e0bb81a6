-- `lexer::bare_dot` meets its contract: at a dot by the byte after it, and nowhere else. Assumes nothing.
use mathlib.Core.Path.{sym, ap, ◌∙◌}
use mathlib.Core.Bool.{not}
use Rattle.lexer.proofs.Ends.{dot-then, no-dot, no-dot-at-end}
use Rattle.lexer.proofs.bare_dot.Goals as goal

pub returns-then-text-at : goal.returns-then-text-at
returns-then-text-at c = sym (no-dot-at-end _ _ c.if-text-at.true)

pub returns-then-is_dot : goal.returns-then-is_dot
returns-then-is_dot c =
    ap not c.part_starts.ensures
    ∙ sym (dot-then _ _ c.if-text-at.false (sym c.is_dot.ensures ∙ c.if-is_dot.true))

pub returns : goal.returns
returns c = sym (no-dot _ _ c.if-text-at.false (sym c.is_dot.ensures ∙ c.if-is_dot.false))
