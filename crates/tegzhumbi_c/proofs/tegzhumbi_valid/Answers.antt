-- `tegzhumbi_valid` meets its contract: the numbers of the library's answer, which fit. Assumes nothing.
use Rattle.answer_numbers.specs.Numbers.{Fits, valid_numbers}
use Rattle.tegzhumbi_c.proofs.FourBytes.{told, valid-fits}
use Rattle.tegzhumbi_c.proofs.tegzhumbi_valid.Goals as goal

pub returns : goal.returns
returns c = told Fits valid_numbers c.valid_numbers.ensures (valid-fits _ _) c.valid.ensures
