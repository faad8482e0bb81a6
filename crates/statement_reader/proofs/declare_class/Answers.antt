-- `statement_reader::declare_class` meets its contract: a class has no code. Assumes nothing.
use Rattle.policy.specs.Statements.{class}
use Rattle.statement_reader.proofs.MemoryLaws.{wrote_none}
use Rattle.statement_reader.proofs.StepLaws.{declared-steps}
use Rattle.statement_reader.proofs.declare_class.Goals as goal

pub returns : goal.returns
returns c = λ place co cs rs. rw c.declared_step.ensures
    (declared-steps c.declare_class-declared.result c.declare_class-declared.ensures.declares (record { of = λ w i. (class i.0 i.1, i.2, wrote_none co _) }))
