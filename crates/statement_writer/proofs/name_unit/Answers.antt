-- `statement_writer::name_unit` meets its contract, kind by kind. Assumes nothing.
use Rattle.statement_writer.proofs.NumberLaws.{as-reference, as-attribute, as-class, as-role}
use Rattle.statement_writer.proofs.name_unit.Goals as goal

pub returns-in-Reference : goal.returns-in-Reference
returns-in-Reference c = as-reference _ _ c.in-Reference.is c.family_number-number.ensures.0 c.reference.ensures

pub returns-in-Attribute : goal.returns-in-Attribute
returns-in-Attribute c = as-attribute _ _ c.in-Attribute.is c.family_number-number-in-Attribute.ensures.0 c.number_of.ensures

pub returns-in-Class : goal.returns-in-Class
returns-in-Class c = as-class c.in-Class.is c.number_of-in-Class.ensures

pub returns-in-Role : goal.returns-in-Role
returns-in-Role c = as-role c.in-Role.is c.number_of-in-Role.ensures
