-- `set_operators::combine` meets its contract: a src that is long enough goes to `combine_whole`, else
-- after i turns the first i bytes are those of the result. Assumes nothing.
use native.Mathlib.Omega.{arith}
use Rattle.set_operators.proofs.OperatorLaws.{length-combined, combine-turn}
use Rattle.bitset.proofs.LoopSteps.{turned_none, turned-all}
use Rattle.set_operators.proofs.combine.Goals as goal

pub returns-then-dst-src : goal.returns-then-dst-src
returns-then-dst-src c = c.combine_whole.ensures

pub loop-i-init : goal.loop-i-init
loop-i-init c = turned_none _ _

pub loop-i-preserved : goal.loop-i-preserved
loop-i-preserved c = rw (c.apply.ensures, c.byte.ensures) (combine-turn _ _ _ c.loop-i.invariant (omega arith))

pub returns : goal.returns
returns c = turned-all (length-combined _ _ _) (omega arith) c.loop-i.invariant
