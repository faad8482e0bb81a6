-- `bitset::flip` meets its contract: after some turns the bytes passed are those of the result. Assumes nothing.
use native.Mathlib.Omega.{arith}
use Rattle.bitset.proofs.LoopLaws.{flip-turn}
use Rattle.bitset.proofs.SetLaws.{length-set_of}
use Rattle.bitset.proofs.LoopSteps.{turned_none, turned-all}
use Rattle.bitset.specs.Complements.{flipped}
use Rattle.bitset.proofs.flip.Goals as goal

pub loop-b-init : goal.loop-b-init
loop-b-init c = turned_none _ _

pub loop-b-preserved : goal.loop-b-preserved
loop-b-preserved c = flip-turn _ c.loop-b.invariant (omega arith) (omega arith)

pub returns : goal.returns
unfolding flipped
returns c = turned-all (length-set_of _ _) (omega arith) c.loop-b.invariant
