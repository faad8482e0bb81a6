-- `table_parts::record_place` meets its contract. A place below the count is so low that nothing overflows. Assumes nothing.
use mathlib.Core.Path.{sym, ◌∙◌}
use mathlib.Core.List.{[]}
use native.Mathlib.Omega.{arith}
use native.Mathlib.Nat.{mul-le-mul}
use Rattle.table_parts.proofs.RecordLaws.{run-here, run_past, no_run}
use Rattle.table_parts.proofs.record_place.Goals as goal

pub returns-then-count-place : goal.returns-then-count-place
returns-then-count-place c = sym (run_past _ _ _ _ [] c.if-count-place.true ∙ no_run _ _)

pub overflow_mul-result : goal.overflow_mul-result
overflow_mul-result c = omega (
  arith,
  mul-le-mul {n₁ = c.args.place} {m₁ = c.args.width} {n₂ = 4294967295} {m₂ = 255}
      (omega (arith, c.if-count-place.false, c.requires.1)) (omega (arith, c.requires.2)),
)

pub overflow_add-result : goal.overflow_add-result
overflow_add-result c = omega (
  arith,
  c.requires.0,
  mul-le-mul {n₁ = c.args.place} {m₁ = c.args.width} {n₂ = 4294967295} {m₂ = 255}
      (omega (arith, c.if-count-place.false, c.requires.1)) (omega (arith, c.requires.2)),
)

pub returns : goal.returns
returns c = sym (run-here _ _ _ _ [] c.if-count-place.false)
