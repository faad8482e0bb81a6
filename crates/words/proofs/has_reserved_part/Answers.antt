-- `words::has_reserved_part` meets its contract: the parts from the place reached on decide as the whole word does. Assumes nothing.
use mathlib.Core.Path.{refl, sym, ◌∙◌}
use native.Mathlib.Omega.{arith}
use Rattle.lexer.proofs.Ends.{within}
use Rattle.lexer.specs.Class.{is_dot}
use Rattle.policy.specs.Words.{is_reserved}
use Rattle.words.proofs.Dots.{end_after, part-reserved, none-reserved, reserved-behind}
use Rattle.words.proofs.has_reserved_part.Goals as goal

pub loop-at-init : goal.loop-at-init
unfolding is_reserved
loop-at-init c = (omega arith, refl)

pub slice_bounds-is_reserved_word-count : goal.slice_bounds-is_reserved_word-count
slice_bounds-is_reserved_word-count c = omega (arith, c.part_end-end.ensures, end_after c.args.w.now c.loop-at.at)

pub slice_bounds-is_reserved_word-start : goal.slice_bounds-is_reserved_word-start
slice_bounds-is_reserved_word-start c = omega (arith, c.part_end-end.ensures, end_after c.args.w.now c.loop-at.at)

pub slice_bounds-is_reserved_word-end : goal.slice_bounds-is_reserved_word-end
slice_bounds-is_reserved_word-end c = omega (arith, c.part_end-end.ensures, within c.args.w.now is_dot c.loop-at.at c.loop-at.invariant.0)

pub returns-then-is_reserved_word : goal.returns-then-is_reserved_word
returns-then-is_reserved_word c =
    sym (part-reserved _ _ _ c.part_end-end.ensures (sym c.is_reserved_word.ensures ∙ c.if-is_reserved_word.true)) ∙ c.loop-at.invariant.1

pub returns-then-w-end : goal.returns-then-w-end
returns-then-w-end c =
    let not-this = sym c.is_reserved_word.ensures ∙ c.if-is_reserved_word.false in
    sym (none-reserved _ _ _ c.part_end-end.ensures not-this c.if-w-end.true) ∙ c.loop-at.invariant.1

pub loop-at-smaller : goal.loop-at-smaller
loop-at-smaller c =
    omega (arith, c.part_end-end.ensures, c.if-w-end.false, end_after c.args.w.now c.loop-at.at)

pub loop-at-preserved : goal.loop-at-preserved
loop-at-preserved c =
    let not-this = sym c.is_reserved_word.ensures ∙ c.if-is_reserved_word.false in (
      omega arith,
      sym (reserved-behind _ _ _ c.part_end-end.ensures not-this c.if-w-end.false) ∙ c.loop-at.invariant.1,
    )
