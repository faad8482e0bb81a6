-- `lexer::name_goes_on` meets its contract: with a byte of a part, or with a dot by the byte after it, and with nothing else. Assumes nothing.
use mathlib.Core.Path.{sym, ◌∙◌}
use Rattle.lexer.proofs.Ends.{within-part, over-dot, other_byte, no-name-at-end}
use Rattle.lexer.proofs.name_goes_on.Goals as goal

pub returns-then-text-at : goal.returns-then-text-at
returns-then-text-at c = sym (no-name-at-end _ _ c.if-text-at.true)

pub returns-then-is_in_part : goal.returns-then-is_in_part
returns-then-is_in_part c = sym (within-part _ _ c.if-text-at.false (sym c.is_in_part.ensures ∙ c.if-is_in_part.true))

pub returns-then-is_dot : goal.returns-then-is_dot
returns-then-is_dot c =
    c.part_starts.ensures
    ∙ sym
    (over-dot _ _ c.if-text-at.false (sym c.is_in_part.ensures ∙ c.if-is_in_part.false) (sym c.is_dot.ensures ∙ c.if-is_dot.true))

pub returns : goal.returns
returns c =
    sym (other_byte _ _ c.if-text-at.false (sym c.is_in_part.ensures ∙ c.if-is_in_part.false) (sym c.is_dot.ensures ∙ c.if-is_dot.false))
