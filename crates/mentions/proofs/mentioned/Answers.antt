-- `mentions::mentioned` meets its contract: the set holds the attributes among the operands passed. Assumes nothing.
use Rattle.code_reader.proofs.OperandLaws.{operands-tag, operands-past}
use Rattle.mentions.proofs.OperandAttributes.{collected-none, collected-over, collected-more, collected-all}
use Rattle.mentions.proofs.mentioned.Goals as goal
use Rattle.mentions.proofs.mentioned.Goals.{then-operand-ge-ATTRIBUTE, else-operand-ge-ATTRIBUTE}

pub loop-operand-init : goal.loop-operand-init
loop-operand-init c = rw c.clear.ensures (collected-none _ _ _ c.clear-arg-1.given.0.1)

pub returns-then-operand-ge-DECLARE_ATTRIBUTE : goal.returns-then-operand-ge-DECLARE_ATTRIBUTE
returns-then-operand-ge-DECLARE_ATTRIBUTE c =
    rw (← c.rest-ahead.ensures)
    (collected-all _ _ _ _ (operands-tag _ _ c.loop-operand-test.true c.if-operand-ge-DECLARE_ATTRIBUTE.true) c.loop-operand.invariant)

pub loop-operand-preserved : goal.loop-operand-preserved
loop-operand-preserved c =
    let inside = c.loop-operand-test.true in
    let operand = c.if-operand-ge-DECLARE_ATTRIBUTE.false in
    let inv = c.loop-operand.invariant in
    elim c.if-operand-ge-ATTRIBUTE.branch [
      | then-operand-ge-ATTRIBUTE w ↦ rw (w.out-is, w.insert.ensures) (collected-more _ _ _ _ inside operand inv w.if-operand-ge-ATTRIBUTE.true)
      | else-operand-ge-ATTRIBUTE w ↦ rw w.out-is (collected-over _ _ _ _ inside operand inv w.if-operand-ge-ATTRIBUTE.false)
    ]

pub returns : goal.returns
returns c = rw (← c.rest-ahead.ensures) (collected-all _ _ _ _ (operands-past _ _ c.loop-operand-test.false) c.loop-operand.invariant)
