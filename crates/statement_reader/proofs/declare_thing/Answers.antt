-- `statement_reader::declare_thing` meets its contract: a thing has no code. Assumes nothing.
use Rattle.policy.specs.Statements.{thing_of, plain}
use Rattle.policy.specs.Answers.{family_of}
use Rattle.statement_reader.proofs.MemoryLaws.{wrote_none}
use Rattle.statement_reader.proofs.StepLaws.{declared-steps}
use Rattle.statement_reader.proofs.declare_thing.Goals as goal

pub returns : goal.returns
returns c = λ place co cs rs.
    let s = thing_of (family_of c.args.family) in
    rw c.declared_step.ensures
    (declared-steps c.declare-declared.result (c.declare-declared.ensures.declares.of s c.thing_sort.ensures)
    (record { of = λ w i. (plain s i.0, i.1, wrote_none co _) }))
