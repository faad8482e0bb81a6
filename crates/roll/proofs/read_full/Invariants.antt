-- `roll::read_full`: what is read so far lies within the memory.
use Rattle.std.proofs.Common.{◌≤◌, length}
use Rattle.roll.proofs.read_full.Given as goal

abbrev pub invariant-loop : goal.invariant-loop
invariant-loop g l = l.done ≤ length l.memory
