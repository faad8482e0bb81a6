-- `constrain_statement::permission_mask` meets its contract: what is left of the row adds to the mask so far. Assumes nothing.
use Prim.Native.Nat.{◌-◌}
use Rattle.constrain_statement.proofs.Masks.{Going}
use lib.ListN.{length}
use Rattle.constrain_statement.proofs.permission_mask.Given as goal

abbrev pub invariant-loop-start : goal.invariant-loop-start
invariant-loop-start l = Going l.text l.at l.symbols l.family l.i l.mask

abbrev pub decreases-loop-start : goal.decreases-loop-start
decreases-loop-start l = length l.text - l.i
