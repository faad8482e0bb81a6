-- `items::row_end` meets its contract: the end of the row by the tokens from the place reached on, where so many rows within it are open. Assumes nothing.
use mathlib.Core.Path.{◌≡◌}
use Prim.Native.Nat.{◌+◌, ◌-◌, ◌≤◌}
use lib.ListN.{length}
use Rattle.items.specs.Looks.{row_end}
use Rattle.items.proofs.Ends.{end_from}
use Rattle.items.proofs.row_end.Given as goal

abbrev pub invariant-loop-place : goal.invariant-loop-place
invariant-loop-place l = (l.at + l.inside ≤ l.i) × (end_from l.text l.i l.inside ≡ row_end l.text l.at)

abbrev pub decreases-loop-place : goal.decreases-loop-place
decreases-loop-place l = length l.text - l.i
