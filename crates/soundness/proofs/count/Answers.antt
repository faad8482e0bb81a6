-- `soundness::count` meets its contract: the layout, the names and the other bodies decide one after the other. Assumes nothing.
use mathlib.Core.Path.{sym, ◌∙◌}
use borrow.Author.Tests.{not-true, not-false}
use Rattle.soundness.proofs.AnswerLaws.{unlaid, unnamed, few, permissions-length, decided, tells-not, tells-so}
use Rattle.soundness.proofs.count.Goals as goal

pub returns-then-not-is_laid_out : goal.returns-then-not-is_laid_out
returns-then-not-is_laid_out c =
    tells-not _ _ (unlaid _ (sym c.is_laid_out.ensures ∙ not-true _ c.if-not-is_laid_out.true-raw))

pub returns-in_err-counts : goal.returns-in_err-counts
returns-in_err-counts c = rw c.from_residual.ensures (tells-not _ _ (unnamed _ c.names_start-start.ensures c.names_end-end.ensures c.in_err-counts.ensures.0))

pub slice_bounds-bodies_sound-end : goal.slice_bounds-bodies_sound-end
slice_bounds-bodies_sound-end c =
    let names = c.in_ok-counts.ensures in
    sym (permissions-length _ c.names_start-start.ensures c.names_end-end.ensures names.0 _ names.1)

pub bodies_sound-requires : goal.bodies_sound-requires
bodies_sound-requires c = few _ c.names_start-start.ensures c.names_end-end.ensures c.in_ok-counts.ensures.0

pub returns-then-not-bodies_sound : goal.returns-then-not-bodies_sound
returns-then-not-bodies_sound c =
    let names = c.in_ok-counts.ensures in
    let laid = sym c.is_laid_out.ensures ∙ not-false _ c.if-not-is_laid_out.false-raw in
    let decides = decided _ c.names_start-start.ensures c.names_end-end.ensures names.0 _ names.1 laid c.bodies_sound.ensures in
    tells-not _ _ (sym (not-true _ c.if-not-bodies_sound.true-raw) ∙ decides)

pub returns : goal.returns
returns c =
    let names = c.in_ok-counts.ensures in
    let ends = c.names_end-end.ensures in
    let starts = c.names_start-start.ensures in
    let laid = sym c.is_laid_out.ensures ∙ not-false _ c.if-not-is_laid_out.false-raw in
    let decides = decided _ starts ends names.0 _ names.1 laid c.bodies_sound.ensures in
    tells-so _ starts ends names.0 _ names.1 (sym (not-false _ c.if-not-bodies_sound.false-raw) ∙ decides)
