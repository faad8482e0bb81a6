-- `constraints::Stack::negate` meets its contract: the lowest bit is turned. Assumes nothing.
use Rattle.constraints.proofs.StackLaws.{not-none}
use Rattle.constraints.proofs.Stack.negate.Goals as goal

pub returns-then-bits-lt2 : goal.returns-then-bits-lt2
returns-then-bits-lt2 c = λ s e. not-none s _ e c.if-bits-lt2.true
