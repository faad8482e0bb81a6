-- `block_reader::open_block` meets its contract: the keys first, then the depth, then the scope. Assumes nothing.
use native.Mathlib.Omega.{arith}
use borrow.Author.Tests.{not-true, not-false}
use Rattle.block_reader.proofs.OpenedBlocks.{opened-before, too-deep, too_long, opened-now}
use Rattle.block_reader.proofs.open_block.Goals as goal

pub returns-then-not-add : goal.returns-then-not-add
returns-then-not-add c =
    opened-before c.args.text.now c.args.start c.args.len c.args.state (omega (arith, c.add-arg-1.given))
    c.add.ensures (not-true _ c.if-not-add.true-raw)

pub returns-then-state-ge-MAX_DEPTH : goal.returns-then-state-ge-MAX_DEPTH
returns-then-state-ge-MAX_DEPTH c =
    too-deep c.args.text.now c.args.start c.args.len c.args.state (omega (arith, c.add-arg-1.given))
    c.add.ensures (not-false _ c.if-not-add.false-raw) (omega (arith, c.if-state-ge-MAX_DEPTH.true))

pub returns-then-not-enter_block : goal.returns-then-not-enter_block
returns-then-not-enter_block c =
    too_long c.args.text.now c.args.start c.args.len c.args.state (omega (arith, c.add-arg-1.given))
    c.add.ensures (not-false _ c.if-not-add.false-raw) c.enter_block.ensures (not-true _ c.if-not-enter_block.true-raw)

pub returns : goal.returns
returns c =
    opened-now c.args.text.now c.args.start c.args.len c.args.state (omega (arith, c.add-arg-1.given))
    c.add.ensures (not-false _ c.if-not-add.false-raw) c.enter_block.ensures
    (omega (arith, c.if-state-ge-MAX_DEPTH.false)) (not-false _ c.if-not-enter_block.false-raw)
