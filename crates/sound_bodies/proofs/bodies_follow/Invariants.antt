-- `sound_bodies::bodies_follow` meets its contract. The loop's invariant: the bodies that are left follow from `end` on where all do from the first
-- one. Assumes nothing.
use Prim.Native.Nat.{◌+◌, ◌-◌, ◌*◌, ◌≤◌}
use mathlib.Core.Path.{◌≡◌}
use lib.ListN.{length, drop}
use Rattle.sound_bodies.specs.SoundBodies.{header_bytes, follow}
use Rattle.sound_bodies.proofs.bodies_follow.Given as goal

abbrev pub invariant-loop-body : goal.invariant-loop-body
invariant-loop-body l =
    (l.end ≤ header_bytes l.sections + 4294967295 * l.body)
    × (follow (l.sections - l.body) l.end (length l.table) (drop (4 + 8 * l.body) l.table) ≡ follow l.sections (header_bytes l.sections) (length l.table) (drop 4 l.table))
