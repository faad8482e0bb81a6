-- `set_rows::grant` meets its contract: the rows below row u are done. Assumes nothing.
use Prim.Native.Nat.{◌-◌, ◌*◌, ◌≤◌}
use lib.ListN.{length}
use mathlib.Core.Path.{◌≡◌}
use Rattle.set_rows.proofs.GrantLaws.{so_far}
use Rattle.set_rows.proofs.grant.Given as goal

abbrev pub invariant-loop-u : goal.invariant-loop-u
invariant-loop-u l = (l.u ≤ l.rows) × (l.body ≡ so_far l.w l.initial.body l.us l.rs (l.w * l.u)) × (length l.body ≡ length l.initial.body)

abbrev pub decreases-loop-u : goal.decreases-loop-u
decreases-loop-u l = l.rows - l.u
