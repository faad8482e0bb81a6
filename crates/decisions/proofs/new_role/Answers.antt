-- `decisions::new_role` meets its contract: 12 first, then the transitions. Assumes nothing.
use Prim.Native.Nat.{◌<◌}
use mathlib.Core.Path.{sym, ◌∙◌}
use Rattle.table_laws.proofs.ListLaws.{all-places}
use Rattle.soundness.proofs.SoundTable.{sound-table}
use Rattle.decisions.proofs.TransitionLaws.{new-role-of}
use Rattle.decisions.proofs.new_role.Goals as goal

pub returns-then-not-declares_transition : goal.returns-then-not-declares_transition
returns-then-not-declares_transition c = λ counted.
    let t = c.args.table.now in
    let s = sound-table t (all-places (λ k. k < 256) t 0 (λ i l. (c.shared_slice_known-1.given i).fits)) counted.sound in
    sym (new-role-of t s counted _ _ _ ∙ rw (← c.if-not-declares_transition.ensures))

pub returns : goal.returns
returns c = λ counted.
    let t = c.args.table.now in
    let s = sound-table t (all-places (λ k. k < 256) t 0 (λ i l. (c.shared_slice_known-1.given i).fits)) counted.sound in
    sym (new-role-of t s counted _ _ _ ∙ rw (← c.if-not-declares_transition.ensures, ← c.first_transition.ensures))
