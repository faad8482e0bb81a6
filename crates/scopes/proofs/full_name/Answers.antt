-- `scopes::full_name` meets its contract: what is put together in the scope is the full name in the blocks that are open. Assumes nothing.
use Rattle.scopes.proofs.Composed.{named}
use Rattle.scopes.proofs.full_name.Goals as goal

pub returns : goal.returns
returns c =
    named c.scope_length.ensures.1 c.part.ensures c.compose.ensures
