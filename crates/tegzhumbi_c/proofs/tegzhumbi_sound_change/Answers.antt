-- `tegzhumbi_sound_change` meets its contract: the numbers of the answer on a sound table, which fit. Assumes nothing.
use mathlib.Core.Path.{◌∙◌}
use Rattle.answer_numbers.specs.Numbers.{Fits, change_numbers}
use Rattle.policy.proofs.SameQuestions.{same-change}
use Rattle.tegzhumbi_c.proofs.FourBytes.{told, change-fits}
use Rattle.tegzhumbi_c.proofs.tegzhumbi_sound_change.Goals as goal

pub returns : goal.returns
returns c = λ s.
    told Fits change_numbers c.change_numbers.ensures (change-fits _ _)
    (c.change.ensures s ∙ same-change _ _ c.context_of-source.ensures c.context_of-target.ensures _)
