-- `tegzhumbi_relabel` meets its contract: the numbers of the library's answer, which fit. Assumes nothing.
use mathlib.Core.Path.{◌∙◌}
use Rattle.answer_numbers.specs.Numbers.{Fits, change_numbers}
use Rattle.policy.proofs.SameQuestions.{same-relabelling}
use Rattle.tegzhumbi_c.proofs.FourBytes.{told, relabel-fits}
use Rattle.tegzhumbi_c.proofs.tegzhumbi_relabel.Goals as goal

pub returns : goal.returns
returns c =
    told Fits change_numbers c.change_numbers.ensures (relabel-fits _ _)
    (c.relabel.ensures
    ∙ same-relabelling _ _ c.context_of-old.ensures c.context_of-new.ensures c.context_of-process.ensures)
