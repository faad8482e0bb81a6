-- `roll_lines::put_lines` meets its contract: the lines of the numbers below the present one are written. The measure is how many can follow. Assumes nothing.
use Prim.Native.Nat.{◌-◌}
use Rattle.roll_lines.proofs.Lines.{Put}
use Rattle.roll_lines.proofs.put_lines.Given as goal

abbrev pub invariant-loop-place : goal.invariant-loop-place
invariant-loop-place l = Put l.table l.sort l.body l.kind l.of l.initial.out l.at l.out l.end l.number

abbrev pub decreases-loop-place : goal.decreases-loop-place
decreases-loop-place l = 128 - l.number
