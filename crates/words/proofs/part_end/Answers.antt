-- `words::part_end` meets its contract: the first dot from the place reached on is the first from the place asked on. Assumes nothing.
use mathlib.Core.Path.{refl, sym, ◌∙◌}
use borrow.Author.Tests.{eq-eqb, ne_eqb}
use Rattle.lexer.specs.Class.{is_dot}
use Rattle.lexer.proofs.Ends.{found, further, none_left}
use Rattle.lexer.proofs.Names.{dot-byte}
use Rattle.words.proofs.part_end.Goals as goal

pub loop-i-init : goal.loop-i-init
loop-i-init c = refl

pub returns-then-w-i-eq-DOT : goal.returns-then-w-i-eq-DOT
returns-then-w-i-eq-DOT c =
    sym (found _ is_dot _ (dot-byte _ ∙ eq-eqb _ _ c.if-w-i-eq-DOT.true) c.loop-i-test.true) ∙ c.loop-i.invariant

pub loop-i-preserved : goal.loop-i-preserved
loop-i-preserved c =
    sym (further _ is_dot _ (dot-byte _ ∙ ne_eqb _ _ c.if-w-i-eq-DOT.false) c.loop-i-test.true) ∙ c.loop-i.invariant

pub returns : goal.returns
returns c = sym (none_left _ is_dot _ c.loop-i-test.false) ∙ c.loop-i.invariant
