-- `constraint_grammar::are_sides` meets its contract: u1, r1 and t1 each have the other side of their family after them. Assumes nothing.
use mathlib.Core.Path.{sym}
use native.Mathlib.Omega.{arith}
use Rattle.constraint_grammar.proofs.ComparisonLaws.{users-pair, roles-pair, types-pair, not_first}
use Rattle.constraint_grammar.proofs.are_sides.Goals as goal

pub returns-in-11 : goal.returns-in-11
returns-in-11 c n = rw c.in-11.is (users-pair n c.args.y)

pub returns-in-14 : goal.returns-in-14
returns-in-14 c n = rw c.in-14.is (roles-pair n c.args.y)

pub returns-in-17 : goal.returns-in-17
returns-in-17 c n = rw c.in-17.is (types-pair n c.args.y)

pub returns-in_default : goal.returns-in_default
returns-in_default c n = sym (not_first n c.args.x _ (λ z. omega arith) (λ z. omega arith) (λ z. omega arith))
