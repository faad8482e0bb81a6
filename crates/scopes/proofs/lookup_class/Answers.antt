-- `scopes::lookup_class` meets its contract: all tries, in the family of the classes. Assumes nothing.
use Rattle.scopes.proofs.Bounds.{looks-class}
use Rattle.scopes.proofs.lookup_class.Goals as goal

pub returns : goal.returns
returns c = looks-class c.resolve.ensures
