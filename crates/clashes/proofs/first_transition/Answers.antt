-- `clashes::first_transition` meets its contract: none of the items passed is a transition. Assumes nothing.
use native.Mathlib.Omega.{arith}
use Rattle.clashes.proofs.SegmentLaws.{still-first, still-over, still-here, still-none}
use Rattle.clashes.proofs.first_transition.Goals as goal

pub loop-at-init : goal.loop-at-init
loop-at-init c = λ p ok q. still-first p ok _ q

pub returns-then-code-at-eq-TRANSITION : goal.returns-then-code-at-eq-TRANSITION
returns-then-code-at-eq-TRANSITION c = (
  omega arith,
  λ p ok q. still-here p ok _ q _ c.loop-at-test.true (c.loop-at.invariant p ok q),
)

pub loop-at-preserved : goal.loop-at-preserved
loop-at-preserved c = λ p ok q.
    still-over p ok _ q _ c.loop-at-test.true (c.loop-at.invariant p ok q) _ c.next_statement-at.ensures.0
    c.if-code-at-eq-TRANSITION.false

pub returns : goal.returns
returns c = (omega arith, λ p ok q. still-none p ok _ q _ c.loop-at-test.false (c.loop-at.invariant p ok q))
