-- `constraints::Stack::result` meets its contract: the lowest bit. Assumes nothing.
use borrow.Author.Tests.{lt-leb}
use Rattle.constraints.proofs.StackLaws.{top-none}
use Rattle.constraints.proofs.Stack.result.Goals as goal

pub returns-else-self-ge2 : goal.returns-else-self-ge2
returns-else-self-ge2 c = λ s e. rw (lt-leb _ _ c.if-self-ge2.false) (top-none s _ e c.if-self-ge2.false)
