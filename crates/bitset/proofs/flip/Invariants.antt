-- `bitset::flip` meets its contract: after some turns the bytes passed are those of the result. Assumes nothing.
use Rattle.bitset.proofs.LoopSteps.{Turned}
use Rattle.bitset.specs.Complements.{flipped}
use Rattle.bitset.proofs.flip.Given as goal

abbrev pub invariant-loop-b : goal.invariant-loop-b
invariant-loop-b l = Turned (flipped l.initial.set) l.initial.set l.set l.b-index
