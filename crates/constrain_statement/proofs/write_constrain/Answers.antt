-- `constrain_statement::write_constrain` meets its contract: 5 by the class, its permissions and the names of the expression; then the record, and
-- what `limit` says. Assumes nothing.
use Rattle.policy.specs.Words.{two_sides}
use Rattle.items.proofs.Items.{sees}
use Rattle.constrain_statement.proofs.ExpressionLaws.{told}
use Rattle.constrain_statement.proofs.Answers.{past-rows, scope-missing, scope-undeclared, name-undeclared, answered}
use native.Mathlib.Omega.{arith}
use borrow.Enum.Refused.{opened}
use Rattle.constrain_statement.proofs.write_constrain.Goals as goal

pub returns-then-row-gt-MAX : goal.returns-then-row-gt-MAX
returns-then-row-gt-MAX c = record { writes = past-rows c.if-row-gt-MAX.true; refuses = tt }

pub returns-in_default : goal.returns-in_default
returns-in_default c = record { writes = scope-missing c.next_item-first.ensures (opened c.in_default.in_default-own.keys2); refuses = tt }

pub returns-in_default-class_and_permissions : goal.returns-in_default-class_and_permissions
returns-in_default-class_and_permissions c = record {
  writes = scope-undeclared (sees c.next_item-first.ensures c.in-Open.is) c.class_and_permissions.ensures c.in_default-class_and_permissions.is;
  refuses = tt;
}

pub returns-in_default-write_expression : goal.returns-in_default-write_expression
returns-in_default-write_expression c = record {
  writes =
      name-undeclared (sees c.next_item-first.ensures c.in-Open.is) c.class_and_permissions.ensures
      c.in-Some.is (c.write_expression.ensures two_sides) c.in_default-write_expression.is;
  refuses = tt;
}

pub overflow_sub-written : goal.overflow_sub-written
overflow_sub-written c =
    let w = told (c.write_expression.ensures two_sides) c.in-Some-write_expression.is in
    omega (arith, w.rises)

pub returns : goal.returns
returns c = record {
  writes =
      answered (sees c.next_item-first.ensures c.in-Open.is) c.class_and_permissions.ensures
      c.in-Some.is (c.write_expression.ensures two_sides) c.in-Some-write_expression.is c.put_record.ensures c.limit.ensures.admits;
  refuses = c.limit.ensures.refuses;
}
