-- `words::has_reserved_part` meets its contract: the parts from the place reached on decide as the whole word does. Assumes nothing.
use Prim.Native.Nat.{◌-◌, ◌≤◌}
use mathlib.Core.Path.{◌≡◌}
use lib.ListN.{length}
use Rattle.policy.specs.Words.{is_reserved}
use Rattle.words.proofs.Dots.{reserved_from}
use Rattle.words.proofs.has_reserved_part.Given as goal

abbrev pub invariant-loop-at : goal.invariant-loop-at
invariant-loop-at l = (l.at ≤ length l.w) × (reserved_from l.w l.at ≡ is_reserved l.w)

abbrev pub decreases-loop-at : goal.decreases-loop-at
decreases-loop-at l = length l.w - l.at
