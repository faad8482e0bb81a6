-- `constraints::next_of_class` meets its contract. The loop's invariant: those before the number are of other classes. Assumes nothing.
use Rattle.std.proofs.Common.{◌∙◌}
use Rattle.constraints.proofs.ClassWalkLaws.{passed-one}
use Rattle.constraints.proofs.next_of_class.Goals as goal

pub loop-number-preserved : goal.loop-number-preserved
loop-number-preserved c = passed-one _ _ _ _ c.loop-number.invariant c.loop-number-test.true (λ e. c.if-constraint_class-class.false (c.constraint_class.ensures ∙ e))
