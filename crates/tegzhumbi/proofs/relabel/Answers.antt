-- `tegzhumbi::relabel` meets its contract. Assumes nothing.
use mathlib.Core.Path.{◌∙◌}
use Rattle.policy.proofs.SameQuestions.{same-relabelling}
use Rattle.tegzhumbi.proofs.relabel.Goals as goal

pub returns : goal.returns
returns c =
    c.relabel.ensures ∙ same-relabelling _ _ c.asked.ensures c.asked-2.ensures c.asked-3.ensures
