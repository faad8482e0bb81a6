-- `lexer::part_starts` meets its contract: at a byte by its class, and not at the end of the text. Assumes nothing.
use mathlib.Core.Path.{sym, ◌∙◌}
use Rattle.lexer.proofs.Ends.{part-at-byte, no-part-at-end}
use Rattle.lexer.proofs.part_starts.Goals as goal

pub returns-then-text-at : goal.returns-then-text-at
returns-then-text-at c = sym (no-part-at-end _ _ c.if-text-at.true)

pub returns : goal.returns
returns c = c.starts_part.ensures ∙ sym (part-at-byte _ _ c.if-text-at.false)
