-- `scopes::resolve` meets its contract: what the tries decide is what the environment has. Assumes nothing.
use Rattle.scopes.proofs.Bounds.{looks}
use Rattle.scopes.proofs.resolve.Goals as goal

pub returns : goal.returns
returns c = looks c.find.ensures
