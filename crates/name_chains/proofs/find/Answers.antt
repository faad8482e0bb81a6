-- `name_chains::find` meets its contract. The loop's invariant: so many others of the chain were compared, the next to compare is the entry whose first
-- word is `at`, and what the try says is what it says from there on (TryLaws). Assumes nothing.
use native.Mathlib.Omega.{arith}
use Rattle.name_chains.proofs.FindLaws.{chain-starts, hit-tries, turn, chain-passed}
use Rattle.name_chains.proofs.find.Goals as goal

pub loop-others-init : goal.loop-others-init
loop-others-init c = (c.chain_of-chain.ensures.small, chain-starts c.chain_of-chain.ensures)

pub returns-then-is_same : goal.returns-then-is_same
returns-then-is_same c =
    hit-tries c.link_at-sort.ensures.0 c.is_same.ensures (omega arith) c.loop-others.invariant.1 c.if-is_same.true

pub loop-others-preserved : goal.loop-others-preserved
loop-others-preserved c =
    let link = c.link_at-at.ensures in
    (link.1.next, turn link.0 c.is_same.ensures (omega arith) c.loop-others.invariant.1 c.if-is_same.false)

pub returns : goal.returns
returns c = chain-passed (omega arith) c.loop-others.invariant.1
