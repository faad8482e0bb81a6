-- `compiler::write_fitting` meets its contract: 10, or the table. Assumes nothing.
use native.Mathlib.Omega.{arith}
use Rattle.policy.specs.Image.{image_of}
use Rattle.compiler.proofs.OutcomeLaws.{too_short, fitting}
use Rattle.compiler.proofs.write_fitting.Goals as goal

pub returns-then-table-length : goal.returns-then-table-length
returns-then-table-length c = record {
  says = λ p from sizes copied.
      too_short (image_of p) _ _ (c.needed-length.ensures.says p from.accepted sizes) (omega arith);
}

pub returns : goal.returns
returns c = record {
  says = λ p from sizes copied.
      let long = c.needed-length.ensures.says p from.accepted sizes in
      fitting (image_of p) _ _ _ long (omega arith) (c.write_table.ensures.says p from sizes copied (omega (arith, long)));
}
