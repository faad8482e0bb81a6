-- `constraints::Stack::conjoin` meets its contract: the two lowest bits become one. Assumes nothing.
use Rattle.constraints.proofs.StackLaws.{and-few}
use Rattle.constraints.proofs.Stack.conjoin.Goals as goal

pub returns-then-bits-lt4 : goal.returns-then-bits-lt4
returns-then-bits-lt4 c = λ s e. and-few s _ e c.if-bits-lt4.true
