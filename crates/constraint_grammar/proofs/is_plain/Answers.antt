-- `constraint_grammar::is_plain` meets its contract: eq and neq have the numbers 6 and 7. Assumes nothing.
use native.Mathlib.Omega.{arith}
use Rattle.constraint_grammar.proofs.ComparisonLaws.{plain, not-plain}
use Rattle.constraint_grammar.proofs.is_plain.Goals as goal

pub returns-in-6 : goal.returns-in-6
returns-in-6 c = plain c.args.op (omega arith) (omega arith)

pub returns-in_default : goal.returns-in_default
returns-in_default c = not-plain c.args.op (λ h g. omega arith)

pub returns-in_default-2 : goal.returns-in_default-2
returns-in_default-2 c = not-plain c.args.op (λ h g. omega arith)
