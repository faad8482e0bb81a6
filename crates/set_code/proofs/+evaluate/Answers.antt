-- `set_code::evaluate` meets its contract. It calls itself on each operand, and the code that is left falls. The loop's invariant: whatever S
-- is at the place, what was read and what is ahead make it. Assumes nothing.
use native.Mathlib.Omega.{arith}
use mathlib.Core.List.{[]}
use Rattle.set_code.proofs.OperandLoop.{none-past, evaluates-reference, started, not-past, ended, further, further-reference}
use Rattle.set_code.proofs.+evaluate.Goals as goal

pub returns-then-code-at : goal.returns-then-code-at
returns-then-code-at t c = record { forward = λ l. absurd (omega (arith, l)); right = λ e rest n q. absurd (none-past _ _ 0 [] e rest n q c.if-code-at.true) }

pub returns-then-operator-lt-ALL : goal.returns-then-operator-lt-ALL
returns-then-operator-lt-ALL t c = rw c.reference.ensures (evaluates-reference _ _ _ _ c.if-operator-lt-ALL.true)

pub loop-place-init : goal.loop-place-init
loop-place-init t c = (omega arith, λ e rest n q. rw (c.fill.ensures, c.start.ensures) (started _ _ _ _ e rest n q c.if-operator-lt-ALL.false))

pub returns-then-unit-eq-END : goal.returns-then-unit-eq-END
returns-then-unit-eq-END t c = record { forward = λ l. omega arith; right = λ e rest n q. ended _ _ _ _ _ _ _ e rest (c.loop-place.invariant.1 e rest n q) c.if-unit-eq-END.true }

pub loop-place-preserved-then-adds_reference : goal.loop-place-preserved-then-adds_reference
loop-place-preserved-then-adds_reference t c =
    let adds = c.adds_reference.ensures c.if-adds_reference.true in (
      omega arith,
      λ e rest n q. rw c.add_reference.ensures
          (further-reference _ _ _ _ _ _ _ e rest (c.loop-place.invariant.1 e rest n q) adds.0 adds.1),
    )

pub evaluate-place-requires : goal.evaluate-place-requires
evaluate-place-requires t c = (omega arith, tt)

pub loop-place-smaller : goal.loop-place-smaller
loop-place-smaller t c = let moves = c.evaluate-place.ensures.forward in omega (arith, moves (omega arith))

pub loop-place-preserved : goal.loop-place-preserved
loop-place-preserved t c = (
  omega (arith, c.evaluate-place.ensures.forward (omega arith)),
  λ e rest n q. rw c.join.ensures
      (further _ _ _ _ _ _ _ e rest (c.loop-place.invariant.1 e rest n q)
      c.if-unit-eq-END.false _ _ c.evaluate-place.ensures),
)

pub returns : goal.returns
returns t c = record { forward = λ l. omega arith; right = λ e rest n q. absurd (not-past _ _ _ _ _ _ _ e rest (c.loop-place.invariant.1 e rest n q) c.loop-place-test.false) }
