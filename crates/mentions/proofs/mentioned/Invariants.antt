-- `mentions::mentioned` meets its contract: the set holds the attributes among the operands passed. Assumes nothing.
use Rattle.mentions.proofs.OperandAttributes.{Collected}
use Rattle.mentions.proofs.mentioned.Given as goal

abbrev pub invariant-loop-operand : goal.invariant-loop-operand
invariant-loop-operand l = Collected l.ahead 0 l.out l.operand-index
