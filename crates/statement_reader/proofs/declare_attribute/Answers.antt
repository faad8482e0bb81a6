-- `statement_reader::declare_attribute` meets its contract: the code of an attribute is its tag and place. Assumes nothing.
use Rattle.policy.specs.Statements.{attribute_of, plain}
use Rattle.policy.specs.Answers.{family_of}
use Rattle.statement_reader.proofs.StepLaws.{declared-steps}
use Rattle.statement_reader.proofs.declare_attribute.Goals as goal

pub returns : goal.returns
returns c =
    λ cs rs.
    let s = attribute_of (family_of c.args.family) in
    rw c.declared_step.ensures
    (declared-steps c.declare-declared.result (c.declare-declared.ensures.declares.of s c.attribute_sort.ensures)
    (record { of = λ w i. (plain s i.0, i.1, c.write_attribute-to.ensures.wrote) }))
