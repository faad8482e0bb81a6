-- `constraint_grammar::is_component` meets its contract: u1 u2 r1 r2 t1 t2 have the numbers 11 12 14 15 17 18, and with u3 r3 t3 it is 11 to 19.
-- Assumes nothing.
use native.Mathlib.Omega.{arith}
use Rattle.constraint_grammar.proofs.ComparisonLaws.{of-two, not-of-two, of-three, not-of-three}
use Rattle.constraint_grammar.proofs.is_component.Goals as goal

pub returns-in-11 : goal.returns-in-11
returns-in-11 c = rw c.in-Two.is (of-two c.args.x (omega arith) (omega arith) (λ z. omega arith) (λ z. omega arith))

pub returns-in-11-2 : goal.returns-in-11-2
returns-in-11-2 c = rw c.in-Two.is (of-two c.args.x (omega arith) (omega arith) (λ z. omega arith) (λ z. omega arith))

pub returns-in-11-3 : goal.returns-in-11-3
returns-in-11-3 c = rw c.in-Two.is (of-two c.args.x (omega arith) (omega arith) (λ z. omega arith) (λ z. omega arith))

pub returns-in_default : goal.returns-in_default
returns-in_default c = rw c.in-Two.is (not-of-two c.args.x (λ h g a b. omega arith))

pub returns-in_default-2 : goal.returns-in_default-2
returns-in_default-2 c = rw c.in-Two.is (not-of-two c.args.x (λ h g a b. omega arith))

pub returns-in_default-3 : goal.returns-in_default-3
returns-in_default-3 c = rw c.in-Two.is (not-of-two c.args.x (λ h g a b. omega arith))

pub returns-in_default-4 : goal.returns-in_default-4
returns-in_default-4 c = rw c.in-Two.is (not-of-two c.args.x (λ h g a b. omega arith))

pub returns-in-11-to-19 : goal.returns-in-11-to-19
returns-in-11-to-19 c = rw c.in-Three.is (of-three c.args.x (omega arith) (omega arith))

pub returns-in_default-matches : goal.returns-in_default-matches
returns-in_default-matches c = rw c.in-Three.is (not-of-three c.args.x (λ h g. omega arith))

pub returns-in_default-matches-2 : goal.returns-in_default-matches-2
returns-in_default-matches-2 c = rw c.in-Three.is (not-of-three c.args.x (λ h g. omega arith))
