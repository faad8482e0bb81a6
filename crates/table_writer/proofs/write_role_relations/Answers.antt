-- `table_writer::write_role_relations` meets its contract: two bodies, one after the other. Assumes nothing.
use native.Mathlib.Omega.{arith}
use mathlib.Core.Path.{refl}
use Rattle.table_writer.specs.TableSizes.{body}
use Rattle.table_writer.proofs.BodyLengths.{few-roles, role-types-long, role-roles-long}
use Rattle.table_writer.proofs.HeaderLaws.{puts_then}
use Rattle.table_writer.proofs.Assembly.{relation-puts, role-types-are, role-roles-are}
use Rattle.table_writer.proofs.write_role_relations.Goals as goal

pub returns : goal.returns
returns c =
    record {
      says = λ p us from sizes at.
          let ok = from.accepted in
          puts_then
          (relation-puts p (body 2 p) c.write_relation.ensures ok from.code from.role-sets from.type-sets
          (omega (arith, sizes.roles, few-roles p ok)) refl
          (omega (arith, role-types-long p ok, sizes.roles)) (role-types-are p _ sizes.roles))
          (relation-puts p (body 3 p) c.write_relation-2.ensures ok from.code from.role-sets from.role-sets
          (omega (arith, sizes.roles, few-roles p ok)) refl
          (omega (arith, role-roles-long p ok, sizes.roles)) (role-roles-are p _ sizes.roles))
          at.role-roles;
    }
