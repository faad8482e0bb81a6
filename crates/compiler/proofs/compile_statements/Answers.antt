-- `compiler::compile_statements` meets its contract, by what the parser left. Assumes nothing.
use mathlib.Core.Path.{refl, ◌∙◌}
use Rattle.policy.specs.Statements.{types}
use Rattle.compiler.proofs.ParserOutput.{symbols-held, things-counted, code-taken, copied}
use Rattle.compiler.proofs.compile_statements.Goals as goal

pub returns : goal.returns
returns c =
    record {
      says = λ p lent h.
          let sizes = c.sizes_of-sizes.ensures.says p lent _ refl h in
          c.resolve_and_write.ensures.says p h.accepted (c.units-used.ensures ∙ code-taken h) sizes
          (things-counted p types (symbols-held h) c.count-types.ensures refl) (copied h sizes);
    }
