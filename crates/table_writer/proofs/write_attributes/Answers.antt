-- `table_writer::write_attributes` meets its contract: the sets of three families, one after the other. Assumes nothing.
use native.Mathlib.Omega.{arith}
use mathlib.Core.Path.{refl}
use Rattle.policy.specs.Statements.{users, roles, types}
use Rattle.table_writer.proofs.BodyLengths.{few-attributes, user-sets-long, role-sets-long, type-sets-long}
use Rattle.table_writer.proofs.HeaderLaws.{puts_then, puts-same}
use Rattle.table_writer.proofs.Assembly.{sets-puts, sets-are}
use Rattle.table_writer.proofs.write_attributes.Goals as goal

pub returns : goal.returns
returns c =
    record {
      says = λ p units from sizes at.
          let ok = from.accepted in
          puts-same (sets-are p)
          (puts_then (sets-puts p users c.write_sets.ensures from.user-sets refl sizes.user-attributes (few-attributes p ok users)
          (omega (arith, user-sets-long p ok)))
          (puts_then (sets-puts p roles c.write_sets-2.ensures from.role-sets refl sizes.role-attributes (few-attributes p ok roles)
          (omega (arith, role-sets-long p ok)))
          (sets-puts p types c.write_sets-3.ensures from.type-sets refl sizes.type-attributes (few-attributes p ok types) (omega (arith, type-sets-long p ok)))
          (omega (arith, at.type-sets, role-sets-long p ok)))
          (omega (arith, at.role-sets, user-sets-long p ok)));
    }
