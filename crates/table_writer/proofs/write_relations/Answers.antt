-- `table_writer::write_relations` meets its contract: four bodies, each after the one before it. Assumes nothing.
use native.Mathlib.Omega.{arith}
use mathlib.Core.Path.{refl}
use Rattle.table_writer.specs.TableSizes.{body}
use Rattle.table_writer.proofs.BodyLengths.{few-users, user-roles-long}
use Rattle.table_writer.proofs.HeaderLaws.{puts_then}
use Rattle.table_writer.proofs.Assembly.{copy-puts, relation-puts, user-roles-are}
use Rattle.table_writer.proofs.write_relations.Goals as goal

pub returns : goal.returns
returns c =
    record {
      says = λ p from sizes at names.
          let ok = from.accepted in
          puts_then (copy-puts _ (body 0 p) c.copy.ensures refl names sizes.names)
          (puts_then
          (relation-puts p (body 1 p) c.write_relation.ensures ok from.code from.user-sets from.role-sets
          (omega (arith, sizes.users, few-users p ok)) refl
          (omega (arith, user-roles-long p ok, sizes.users)) (user-roles-are p _ sizes.users))
          (c.write_role_relations.ensures.says p _ from sizes at)
          at.role-types) at.user-roles;
    }
