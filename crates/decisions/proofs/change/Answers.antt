-- `decisions::change` meets its contract: the denials in their order, then the constraints. Assumes nothing.
use Prim.Native.Nat.{◌<◌}
use mathlib.Core.Path.{sym, ◌∙◌}
use Rattle.policy.specs.Deciding.{decide}
use Rattle.table_laws.proofs.ListLaws.{all-places}
use Rattle.answer_laws.proofs.FourTests.{change-tests}
use Rattle.soundness.proofs.SoundTable.{sound-table}
use Rattle.decisions.specs.Asked.{context_of}
use Rattle.decisions.proofs.ContextLaws.{both-valid, context-denied}
use Rattle.decisions.proofs.ChangeLaws.{change-of}
use Rattle.decisions.proofs.change.Goals as goal

pub returns-then-not-declares_question : goal.returns-then-not-declares_question
unfolding decide
returns-then-not-declares_question c = λ known has.
    let t = c.args.table.now in
    let s = sound-table t (all-places (λ k. k < 256) t 0 (λ i l. (c.shared_slice_known-1.given i).fits)) known.counted.sound in
    sym (change-of t s known _ ∙ rw (← c.if-not-declares_question.ensures t c.args.permission has))

pub returns-in-Some : goal.returns-in-Some
returns-in-Some c = λ known has.
    let t = c.args.table.now in
    let s = sound-table t (all-places (λ k. k < 256) t 0 (λ i l. (c.shared_slice_known-1.given i).fits)) known.counted.sound in
    sym (change-of t s known _ ∙ rw (← c.if-not-declares_question.ensures t c.args.permission has)
    (sym (context-denied t c.args.names.special (context_of c.args.source) (context_of c.args.target) c.in-Some.denial c.in-Some.ensures _ _ change-tests _ _)))

pub returns-then-not-role_may : goal.returns-then-not-role_may
unfolding decide
returns-then-not-role_may c = λ known has.
    let t = c.args.table.now in
    let s = sound-table t (all-places (λ k. k < 256) t 0 (λ i l. (c.shared_slice_known-1.given i).fits)) known.counted.sound in
    let valid = both-valid t c.args.names.special (context_of c.args.source) (context_of c.args.target) c.in_default.ensures in
    sym (change-of t s known _ ∙ rw (← c.if-not-declares_question.ensures t c.args.permission has, valid.0, valid.1, ← c.if-not-role_may.ensures))

pub returns : goal.returns
unfolding decide
returns c = λ known has.
    let t = c.args.table.now in
    let s = sound-table t (all-places (λ k. k < 256) t 0 (λ i l. (c.shared_slice_known-1.given i).fits)) known.counted.sound in
    let valid = both-valid t c.args.names.special (context_of c.args.source) (context_of c.args.target) c.in_default.ensures in
    sym (change-of t s known _ ∙ rw (← c.if-not-declares_question.ensures t c.args.permission has, valid.0, valid.1, ← c.if-not-role_may.ensures)
    (sym (c.ask_constraints.ensures s known.counted.counts)))
