-- `constraint_grammar::is_operator` meets its contract: eq neq dom domby incomp have the numbers 6 to 10. Assumes nothing.
use native.Mathlib.Omega.{arith}
use Rattle.constraint_grammar.proofs.ComparisonLaws.{operator, no-operator}
use Rattle.constraint_grammar.proofs.is_operator.Goals as goal

pub returns-in-6-to-10 : goal.returns-in-6-to-10
returns-in-6-to-10 c = operator c.args.op (omega arith) (omega arith)

pub returns-in_default : goal.returns-in_default
returns-in_default c = no-operator c.args.op (λ h g. omega arith)

pub returns-in_default-2 : goal.returns-in_default-2
returns-in_default-2 c = no-operator c.args.op (λ h g. omega arith)
