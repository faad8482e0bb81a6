-- `tegzhumbi::change` meets its contract. Assumes nothing.
use mathlib.Core.Path.{◌∙◌}
use Rattle.policy.proofs.SameQuestions.{same-change}
use Rattle.tegzhumbi.proofs.change.Goals as goal

pub returns : goal.returns
returns c = c.change.ensures ∙ same-change _ _ c.asked.ensures c.asked-2.ensures _
