-- `final_sets::final_sets` meets its contract: after so many rounds the sets are nested so deep; a round that changes nothing is the last that
-- counts. Assumes nothing.
use native.Mathlib.Omega.{arith}
use mathlib.Core.Path.{sym, ◌∙◌}
use Rattle.policy.specs.Answers.{family_of}
use Rattle.final_sets.proofs.FinalLaws.{first_rows, more_rows, last-rows, all-rows}
use Rattle.final_sets.proofs.final_sets.Goals as goal

pub loop-round-init : goal.loop-round-init
loop-round-init c = λ p ok q n. c.clear.ensures ∙ first_rows p ok _ _ c.clear-arg-1.given.0.1

pub returns-then-same_rows : goal.returns-then-same_rows
returns-then-same_rows c = λ p ok q n.
    let f = family_of c.args.family in
    let was = c.loop-round.invariant p ok q n in
    last-rows p ok f c.loop-round._round _ _ (omega arith) was
    (more_rows p ok f c.loop-round._round _ _ was (c.round.ensures p ok q n)) (sym c.same_rows.ensures ∙ c.if-same_rows.true)

pub loop-round-preserved : goal.loop-round-preserved
loop-round-preserved c = λ p ok q n.
    let f = family_of c.args.family in
    more_rows p ok f c.loop-round._round _ _ (c.loop-round.invariant p ok q n) (c.round.ensures p ok q n)

pub returns : goal.returns
returns c = λ p ok q n.
    let f = family_of c.args.family in
    all-rows p ok f c.loop-round._round _ (omega arith) (c.loop-round.invariant p ok q n)
