-- `set_operators::combine_whole` meets its contract: after at turns the first at bytes are those of the result. Assumes nothing.
use Rattle.bitset.proofs.LoopSteps.{Turned}
use Rattle.set_operators.specs.Operators.{combined}
use Rattle.set_operators.proofs.combine_whole.Given as goal

abbrev pub invariant-loop-at : goal.invariant-loop-at
invariant-loop-at l = Turned (combined l.op l.initial.dst l.src) l.initial.dst l.dst l.at
