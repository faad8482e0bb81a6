-- `compiler::sizes_of` meets its contract, by what the symbols count. Assumes nothing.
use mathlib.Core.Path.{refl}
use Rattle.policy.specs.Statements.{users, roles, types}
use Rattle.compiler.proofs.ParserOutput.{symbols-in, names-long, things-counted, attributes-counted}
use Rattle.compiler.proofs.sizes_of.Goals as goal

pub returns : goal.returns
returns c = record {
  says = λ p lent now e h.
      let s = symbols-in h e in
      record {
        names = names-long h;
        users = things-counted p users s c.count.ensures refl;
        roles = things-counted p roles s c.count-2.ensures refl;
        transitions = h.filled.transition-count;
        constraints = h.filled.constraint-count;
        rows = h.filled.row_count_lem;
        user-attributes = attributes-counted p users s c.count-3.ensures refl;
        role-attributes = attributes-counted p roles s c.count-4.ensures refl;
        type-attributes = attributes-counted p types s c.count-5.ensures refl;
        relabels = h.filled.relabel-count;
        relabel-rows = h.filled.relabel-row-count;
      };
}
