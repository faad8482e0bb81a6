-- `final_sets::round` meets its contract: the rows are those of the items passed. Assumes nothing.
use Prim.Native.Nat.{ℕ, ◌+◌}
use mathlib.Core.Path.{sym, ◌∙◌, ap}
use Rattle.policy.specs.Meaning.{of_s}
use Rattle.policy.specs.Answers.{family_of}
use Rattle.code_reader.proofs.Items.{items}
use Rattle.code_reader.proofs.Passes.{finish}
use Rattle.code_reader.proofs.RowLaws.{rows_none}
use Rattle.code_reader.proofs.SetPasses.{start, add_step, over-step}
use Rattle.final_sets.proofs.FinalLaws.{round-rows}
use Rattle.final_sets.proofs.round.Goals as goal

pub loop-at-init : goal.loop-at-init
loop-at-init c = λ p f ok t q. start p _ _ q (c.clear.ensures ∙ rows_none f (of_s _ _) _ c.clear-arg-1.given.0.1)

pub loop-at-preserved-then-code-at : goal.loop-at-preserved-then-code-at
loop-at-preserved-then-code-at c =
    λ p f ok t q.
    add_step p ok f _ _ _ _ c.loop-at-test.true c.next_statement-next.ensures.0 _ (c.loop-at.invariant p f ok t q)
    (c.if-code-at.true ∙ t) _ c.unit.ensures _
    (λ s rest h k d. c.add_set.ensures s rest h d)

pub loop-at-preserved : goal.loop-at-preserved
loop-at-preserved c =
    λ p f ok t q.
    over-step p ok f _ _ _ _ c.loop-at-test.true c.next_statement-next.ensures.0 _ (c.loop-at.invariant p f ok t q)
    (λ h. c.if-code-at.false (h ∙ sym t))

pub returns : goal.returns
returns c = λ p ok q n.
    let f = family_of c.args.family in
    round-rows p f _ _ _ n (finish (items p) _ _ _ c.loop-at-test.false (c.loop-at.invariant p f ok (ap (λ (n : ℕ). 4099 + n) c.family_number-tag.ensures.0) q))
