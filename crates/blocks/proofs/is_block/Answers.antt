-- `blocks::is_block` meets its contract: the block around, then the name. Assumes nothing.
use mathlib.Core.Path.{◌∙◌}
use Rattle.symbols.proofs.SameLaws.{pointwise-same}
use Rattle.blocks.proofs.BlockLists.{other-parent, same-parent}
use Rattle.blocks.proofs.is_block.Goals as goal

pub returns-then-k-parent : goal.returns-then-k-parent
returns-then-k-parent c =
    other-parent c.args.text.now c.args.k c.args.parent c.args.name.now c.if-k-parent.true

pub returns : goal.returns
returns c =
    same-parent c.args.text.now c.args.k c.args.parent c.args.name.now c.if-k-parent.false c.part.ensures
    (c.eq.ensures ∙ pointwise-same _ _)
