-- `sound_bodies::fits_transition` meets its contract: field by field, each where it is in the table. Assumes nothing.
use Prim.Native.Nat.{◌+◌, ◌*◌}
use mathlib.Core.Path.{◌≡◌, sym, subst}
use lib.Dec.{ltb}
use borrow.Author.Rules.{rules}
use Rattle.policy.specs.Image.{TransitionEntry}
use Rattle.sound_constraints.specs.Totals.{things_of}
use Rattle.sound_constraints.proofs.PieceLaws.{transition-front}
use Rattle.sound_bodies.specs.SoundBodies.{fits_transition}
use Rattle.sound_bodies.proofs.fits_transition.Goals as goal

pub returns-then-byte-counts : goal.returns-then-byte-counts
returns-then-byte-counts c =
    let a = c.args in
    subst (λ (m : TransitionEntry). ltb c.byte-then-byte-counts.result a.counts.roles ≡ fits_transition (things_of a.counts) a.counts.classes m)
    (sym (transition-front (a.start + 82 * a.number) a.table.now)) (search rules)

pub returns-else-byte-counts : goal.returns-else-byte-counts
returns-else-byte-counts c =
    let a = c.args in
    subst (λ (m : TransitionEntry). c.if-is_within_at-2.value ≡ fits_transition (things_of a.counts) a.counts.classes m)
    (sym (transition-front (a.start + 82 * a.number) a.table.now)) (search rules)
