-- `relabel_statement::write_relabel` meets its contract: 5 by the class and the names of the expression; then the record, and what `limit` says. Assumes
-- nothing.
use Rattle.policy.specs.Words.{three_sides}
use Rattle.constrain_statement.proofs.ExpressionLaws.{told}
use Rattle.relabel_statement.proofs.RelabelAnswers.{past-rows, class-undeclared, name-undeclared, answered}
use native.Mathlib.Omega.{arith}
use Rattle.relabel_statement.proofs.write_relabel.Goals as goal

pub returns-then-row-gt-MAX_ROWS : goal.returns-then-row-gt-MAX_ROWS
returns-then-row-gt-MAX_ROWS c = record { writes = past-rows c.if-row-gt-MAX_ROWS.true; refuses = tt }

pub returns-in_default : goal.returns-in_default
returns-in_default c = record { writes = class-undeclared c.class_at.ensures c.in_default.is; refuses = tt }

pub returns-in_default-write_expression : goal.returns-in_default-write_expression
returns-in_default-write_expression c = record {
  writes = name-undeclared c.class_at.ensures c.in-Some.is (c.write_expression.ensures three_sides) c.in_default-write_expression.is;
  refuses = tt;
}

pub overflow_sub-written : goal.overflow_sub-written
overflow_sub-written c =
    let w = told (c.write_expression.ensures three_sides) c.in-Some-write_expression.is in
    omega (arith, w.rises)

pub returns : goal.returns
returns c = record {
  writes =
      answered c.class_at.ensures c.in-Some.is (c.write_expression.ensures three_sides) c.in-Some-write_expression.is c.put_record.ensures
      c.limit.ensures.admits;
  refuses = c.limit.ensures.refuses;
}
