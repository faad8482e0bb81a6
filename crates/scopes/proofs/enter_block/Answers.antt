-- `scopes::enter_block` meets its contract: the full name that was put together becomes the scope. Assumes nothing.
use mathlib.Core.Path.{refl}
use Rattle.byte_slices.specs.Parts.{part}
use Rattle.scopes.proofs.OpenAndClose.{entered}
use Rattle.scopes.proofs.enter_block.Goals as goal

pub returns : goal.returns
returns c =
    entered c.args.symbols.now (part c.args.text.now c.args.from c.args.len) c.requires c.in-Some.ensures refl c.copy.ensures
