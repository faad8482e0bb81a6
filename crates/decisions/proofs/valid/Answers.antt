-- `decisions::valid` meets its contract: 12 first, then whether it is valid. Assumes nothing.
use Prim.Native.Nat.{◌<◌}
use mathlib.Core.Path.{sym, ◌∙◌}
use Rattle.table_laws.proofs.ListLaws.{all-places}
use Rattle.soundness.proofs.SoundTable.{sound-table}
use Rattle.decisions.proofs.ContextLaws.{valid-of}
use Rattle.decisions.proofs.valid.Goals as goal

pub returns-then-not-declares_context : goal.returns-then-not-declares_context
returns-then-not-declares_context c = λ known.
    let t = c.args.table.now in
    let s = sound-table t (all-places (λ k. k < 256) t 0 (λ i l. (c.shared_slice_known-1.given i).fits)) known.counted.sound in
    sym (valid-of t s known _ ∙ rw (← c.if-not-declares_context.ensures))

pub returns : goal.returns
returns c = λ known.
    let t = c.args.table.now in
    let s = sound-table t (all-places (λ k. k < 256) t 0 (λ i l. (c.shared_slice_known-1.given i).fits)) known.counted.sound in
    sym (valid-of t s known _ ∙ rw (← c.if-not-declares_context.ensures, ← c.is_valid.ensures))
