-- `lexer::comment_end` meets its contract: the first byte from the place reached on that ends a comment is the first from
-- the place asked on. Assumes nothing.
use mathlib.Core.Path.{refl, sym, ◌∙◌}
use Rattle.lexer.specs.Class.{ends_comment}
use Rattle.lexer.proofs.Variants.{same-as-line-feed}
use Rattle.lexer.proofs.Ends.{told, found, further, none_left}
use Rattle.lexer.proofs.comment_end.Goals as goal

pub loop-i-init : goal.loop-i-init
loop-i-init c = refl

pub returns-then-eq : goal.returns-then-eq
returns-then-eq c =
    sym (found _ ends_comment _ (told ends_comment c.class_of.ensures (c.eq.ensures ∙ same-as-line-feed _) c.if-eq.true)
    c.loop-i-test.true) ∙ c.loop-i.invariant

pub loop-i-preserved : goal.loop-i-preserved
loop-i-preserved c =
    sym (further _ ends_comment _ (told ends_comment c.class_of.ensures (c.eq.ensures ∙ same-as-line-feed _) c.if-eq.false)
    c.loop-i-test.true) ∙ c.loop-i.invariant

pub returns : goal.returns
returns c = sym (none_left _ ends_comment _ c.loop-i-test.false) ∙ c.loop-i.invariant
