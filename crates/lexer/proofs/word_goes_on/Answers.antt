-- `lexer::word_goes_on` meets its contract: at a byte by its class, whose mark is then a capital, and not at the end of the text. Assumes nothing.
use mathlib.Core.Path.{sym, ◌∙◌}
use lib.ListN.{get_or}
use Rattle.lexer.specs.Class.{class_of}
use Rattle.lexer.proofs.Ends.{at_byte, at-end}
use Rattle.lexer.proofs.Marks.{capital}
use Rattle.lexer.proofs.word_goes_on.Goals as goal

pub returns-then-text-at : goal.returns-then-text-at
returns-then-text-at c = sym (at-end _ _ c.if-text-at.true)

pub returns : goal.returns
returns c =
    let a = c.args in
    capital (class_of (get_or a.text.now a.at 0)) _ c.mark.ensures ∙ sym (at_byte _ _ c.if-text-at.false)
