-- `tegzhumbi_sound_relabel` meets its contract: the numbers of the answer on a sound table, which fit. Assumes nothing.
use mathlib.Core.Path.{◌∙◌}
use Rattle.answer_numbers.specs.Numbers.{Fits, change_numbers}
use Rattle.policy.proofs.SameQuestions.{same-relabelling}
use Rattle.tegzhumbi_c.proofs.FourBytes.{told, relabel-fits}
use Rattle.tegzhumbi_c.proofs.tegzhumbi_sound_relabel.Goals as goal

pub returns : goal.returns
returns c = λ s.
    told Fits change_numbers c.change_numbers.ensures (relabel-fits _ _)
    (c.relabel.ensures s
    ∙ same-relabelling _ _ c.context_of-old.ensures c.context_of-new.ensures c.context_of-process.ensures)
