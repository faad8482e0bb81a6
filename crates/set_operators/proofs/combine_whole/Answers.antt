-- `set_operators::combine_whole` meets its contract: after at turns the first at bytes are those of the result. Assumes nothing.
use native.Mathlib.Omega.{arith}
use Rattle.set_operators.proofs.OperatorLaws.{length-combined, combine-turn}
use Rattle.bitset.proofs.LoopSteps.{turned_none, turned-all}
use Rattle.set_operators.proofs.combine_whole.Goals as goal

pub loop-at-init : goal.loop-at-init
loop-at-init c = turned_none _ _

pub loop-at-preserved : goal.loop-at-preserved
loop-at-preserved c = rw c.apply.ensures (combine-turn _ _ _ c.loop-at.invariant (omega arith))

pub returns : goal.returns
returns c = turned-all (length-combined _ _ _) (omega arith) c.loop-at.invariant
