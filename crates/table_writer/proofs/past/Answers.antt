-- `table_writer::past` meets its contract: a product of two numbers that are not far is far from what a number can hold. Assumes nothing.
use native.Mathlib.Nat.{mul-le-mul}
use native.Mathlib.Omega.{arith}
use Rattle.table_writer.proofs.past.Goals as goal

pub overflow_mul-result : goal.overflow_mul-result
overflow_mul-result c =
    omega (
      arith,
      mul-le-mul {n₁ = c.args.many} {m₁ = c.args.width} {n₂ = 100000000} {m₂ = 100000000}
          (omega arith) (omega arith),
    )

pub overflow_add-result : goal.overflow_add-result
overflow_add-result c =
    omega (
      arith,
      mul-le-mul {n₁ = c.args.many} {m₁ = c.args.width} {n₂ = 100000000} {m₂ = 100000000}
          (omega arith) (omega arith),
    )
