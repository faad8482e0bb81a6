-- `scopes::lookup` meets its contract: at once where one try decides, and else by all tries. Assumes nothing.
use Rattle.scopes.proofs.Bounds.{looks}
use Rattle.scopes.proofs.TryLaws.{once-resolves}
use Rattle.scopes.proofs.lookup.Goals as goal

pub returns-then-is_plain : goal.returns-then-is_plain
returns-then-is_plain c = looks (once-resolves c.is_plain.ensures c.if-is_plain.true c.find.ensures)
