-- `set_operators::combine` meets its contract: a src that is long enough goes to `combine_whole`, else
-- after i turns the first i bytes are those of the result. Assumes nothing.
use Rattle.bitset.proofs.LoopSteps.{Turned}
use Rattle.set_operators.specs.Operators.{combined}
use Rattle.set_operators.proofs.combine.Given as goal

abbrev pub invariant-loop-i : goal.invariant-loop-i
invariant-loop-i l = Turned (combined l.op l.initial.dst l.src) l.initial.dst l.dst l.i
