-- `constrain_statement::write_expression` meets its contract: a part, and the expression that it holds. Assumes nothing.
use Rattle.items.proofs.Items.{sees}
use Rattle.constrain_statement.proofs.ExpressionLaws.{no-expression, in-part}
use native.Mathlib.Omega.{arith}
use borrow.Enum.Refused.{opened}
use Rattle.constrain_statement.proofs.write_expression.Goals as goal

pub returns-in_default : goal.returns-in_default
returns-in_default c n = no-expression c.next_item-item.ensures (opened c.in_default.in_default-own.keys2)

pub write_constraint-requires : goal.write_constraint-requires
write_constraint-requires c = omega (arith, (sees c.next_item-item.ensures c.in-Open.is).ahead.0, c.requires)

pub returns : goal.returns
returns c n = in-part (sees c.next_item-item.ensures c.in-Open.is) (c.write_constraint.ensures n)
