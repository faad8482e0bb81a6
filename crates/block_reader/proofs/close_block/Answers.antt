-- `block_reader::close_block` meets its contract. Assumes nothing.
use Rattle.block_reader.proofs.ClosedBlocks.{closed}
use Rattle.block_reader.proofs.close_block.Goals as goal

pub returns : goal.returns
returns c =
    closed {o = c.args.state} c.leave_block.ensures c.around.ensures c.saturating_sub.ensures
