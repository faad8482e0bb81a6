-- `constraints::Stack::disjoin` meets its contract: the two lowest bits become one. Assumes nothing.
use Rattle.constraints.proofs.StackLaws.{or-few}
use Rattle.constraints.proofs.Stack.disjoin.Goals as goal

pub returns-then-bits-lt4 : goal.returns-then-bits-lt4
returns-then-bits-lt4 c = λ s e. or-few s _ e c.if-bits-lt4.true
