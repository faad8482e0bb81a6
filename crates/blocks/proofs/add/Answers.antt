-- `blocks::add` meets its contract. Assumes nothing.
use native.Mathlib.Omega.{arith}
use Rattle.blocks.proofs.BlockLists.{again, added}
use Rattle.blocks.proofs.add.Goals as goal

pub returns-then-was_opened : goal.returns-then-was_opened
returns-then-was_opened c =
    again c.args.text.now c.args.keys.now c.args.count c.args.parent c.args.at c.args.len
    c.part-name.ensures c.was_opened.ensures c.if-was_opened.true

pub returns : goal.returns
returns c =
    added c.args.text.now c.args.keys.now c.args.count c.args.parent c.args.at c.args.len
    c.part-name.ensures c.was_opened.ensures c.if-was_opened.false (omega (arith, c.if-keys-count.false)) c.key_of.ensures
