-- `decisions::relabel` meets its contract: the denials in their order, then the validatetrans statements. Assumes nothing.
use Prim.Native.Nat.{◌<◌}
use mathlib.Core.Path.{sym, ◌∙◌}
use Rattle.policy.specs.Deciding.{decide_relabel}
use Rattle.table_laws.proofs.ListLaws.{all-places}
use Rattle.answer_laws.proofs.FourTests.{relabel-tests}
use Rattle.soundness.proofs.SoundTable.{sound-table}
use Rattle.decisions.specs.Asked.{context_of}
use Rattle.decisions.proofs.ContextLaws.{both-valid, context-denied}
use Rattle.decisions.proofs.RelabelLaws.{relabel-of}
use Rattle.decisions.proofs.relabel.Goals as goal

pub returns-then-not-declares_relabelling : goal.returns-then-not-declares_relabelling
unfolding decide_relabel
returns-then-not-declares_relabelling c = λ known.
    let t = c.args.table.now in
    let s = sound-table t (all-places (λ k. k < 256) t 0 (λ i l. (c.shared_slice_known-1.given i).fits)) known.counted.sound in
    sym (relabel-of t s known _ ∙ rw (← c.if-not-declares_relabelling.ensures))

pub returns-in-Some : goal.returns-in-Some
returns-in-Some c = λ known.
    let t = c.args.table.now in
    let s = sound-table t (all-places (λ k. k < 256) t 0 (λ i l. (c.shared_slice_known-1.given i).fits)) known.counted.sound in
    sym (relabel-of t s known _ ∙ rw (← c.if-not-declares_relabelling.ensures)
    (sym (context-denied t c.args.names.special (context_of c.args.old) (context_of c.args.new) c.in-Some.denial c.in-Some.ensures _ _ relabel-tests _ _)))

pub returns-then-not-is_valid : goal.returns-then-not-is_valid
unfolding decide_relabel
returns-then-not-is_valid c = λ known.
    let t = c.args.table.now in
    let s = sound-table t (all-places (λ k. k < 256) t 0 (λ i l. (c.shared_slice_known-1.given i).fits)) known.counted.sound in
    let valid = both-valid t c.args.names.special (context_of c.args.old) (context_of c.args.new) c.in_default.ensures in
    sym (relabel-of t s known _ ∙ rw (← c.if-not-declares_relabelling.ensures, valid.0, valid.1, ← c.if-not-is_valid.ensures))

pub returns : goal.returns
unfolding decide_relabel
returns c = λ known.
    let t = c.args.table.now in
    let s = sound-table t (all-places (λ k. k < 256) t 0 (λ i l. (c.shared_slice_known-1.given i).fits)) known.counted.sound in
    let valid = both-valid t c.args.names.special (context_of c.args.old) (context_of c.args.new) c.in_default.ensures in
    sym (relabel-of t s known _ ∙ rw (← c.if-not-declares_relabelling.ensures, valid.0, valid.1, ← c.if-not-is_valid.ensures)
    (sym (c.ask_relabels.ensures s known.counted.counts)))
