-- `scopes::start` meets its contract. Assumes nothing.
use Rattle.scopes.proofs.OpenAndClose.{started}
use Rattle.scopes.proofs.start.Goals as goal

pub returns : goal.returns
returns c = started c.args.symbols.now c.requires
