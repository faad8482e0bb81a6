-- `scopes::leave_block` meets its contract: the scope is cut at its last dot. Assumes nothing.
use Rattle.scopes.proofs.OpenAndClose.{left}
use Rattle.scopes.proofs.leave_block.Goals as goal

pub returns : goal.returns
returns c =
    let n = c.scope_length-n in
    left c.args.symbols.now n.result c.last_dot-cut_to.result c.requires n.ensures.0 n.ensures.1 c.last_dot-cut_to.ensures.0 c.last_dot-cut_to.ensures.2
