-- `statement_writer::write_relation` meets its contract: the head and two references. Assumes nothing.
use Rattle.std.specs.Prelude.{None, Some}
use Rattle.statement_writer.proofs.StatementUnits.{relation-coded}
use Rattle.statement_writer.proofs.write_relation.Goals as goal

pub returns-in_err-names : goal.returns-in_err-names
returns-in_err-names c =
    rw c.from_residual.ensures
    (relation-coded None c.in_err-names.was _ _ c.relation_number-tag.ensures.0 c.write_head-u.ensures
    c.first_family.ensures c.second_family.ensures c.write_pair.ensures)

pub returns : goal.returns
returns c =
    relation-coded (Some _) c.in_ok-names.was _ _ c.relation_number-tag.ensures.0 c.write_head-u.ensures
    c.first_family.ensures c.second_family.ensures c.write_pair.ensures
