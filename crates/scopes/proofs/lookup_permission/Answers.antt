-- `scopes::lookup_permission` meets its contract: one try, by the family of the class. Assumes nothing.
use Rattle.scopes.proofs.Bounds.{looks-permission}
use Rattle.scopes.proofs.lookup_permission.Goals as goal

pub returns : goal.returns
returns c = looks-permission c.find.ensures
