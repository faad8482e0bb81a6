-- `sound_bodies::transitions_fit` meets its contract. The loop's invariant: the transitions that are left pass where all do. Assumes nothing.
use Prim.Native.Nat.{◌+◌, ◌-◌, ◌*◌}
use mathlib.Core.Path.{◌≡◌}
use lib.ListN.{drop}
use Rattle.policy.specs.Basics.{every}
use Rattle.policy.specs.Sound.{pieces, transition_at}
use Rattle.sound_constraints.specs.Totals.{things_of}
use Rattle.sound_bodies.specs.SoundBodies.{fits_transition, transitions_fit}
use Rattle.sound_bodies.proofs.transitions_fit.Given as goal

abbrev pub invariant-loop-number : goal.invariant-loop-number
invariant-loop-number l =
    every (λ x. fits_transition (things_of l.counts) l.counts.classes (transition_at x)) (pieces (l.count - l.number) 82 (drop (l.start + 82 * l.number) l.table))
    ≡ transitions_fit (things_of l.counts) l.counts.classes l.count (drop l.start l.table)
