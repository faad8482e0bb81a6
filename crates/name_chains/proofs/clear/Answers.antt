-- `name_chains::clear` meets its contract (EmptyChains). Assumes nothing.
use borrow.Author.Rules.{rules}
use Rattle.name_chains.proofs.EmptyChains.{cleared}
use Rattle.name_chains.proofs.clear.Goals as goal

pub returns : goal.returns
returns c = cleared _ _ c.clear_at.ensures (search rules)
