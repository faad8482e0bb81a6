-- `tegzhumbi_sound_valid` meets its contract: the numbers of the answer on a sound table, which fit. Assumes nothing.
use Rattle.answer_numbers.specs.Numbers.{Fits, valid_numbers}
use Rattle.tegzhumbi_c.proofs.FourBytes.{told, valid-fits}
use Rattle.tegzhumbi_c.proofs.tegzhumbi_sound_valid.Goals as goal

pub returns : goal.returns
returns c = λ s. told Fits valid_numbers c.valid_numbers.ensures (valid-fits _ _) (c.valid.ensures s)
