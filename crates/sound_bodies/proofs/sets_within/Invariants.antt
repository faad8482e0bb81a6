-- `sound_bodies::sets_within` meets its contract. The loop's invariant: the sets that are left pass where all do. Assumes nothing.
use Prim.Native.Nat.{◌+◌, ◌-◌, ◌*◌}
use mathlib.Core.Path.{◌≡◌}
use lib.ListN.{drop}
use Rattle.sound_bodies.specs.SoundBodies.{sets_within}
use Rattle.sound_bodies.proofs.sets_within.Given as goal

abbrev pub invariant-loop-number : goal.invariant-loop-number
invariant-loop-number l =
    sets_within (l.count - l.number) l.width l.total (drop (l.start + l.number * l.width) l.table) ≡ sets_within l.count l.width l.total (drop l.start l.table)
