-- `tegzhumbi_sound_name` meets its contract: the numbers of the answer on a sound table, which fit. Assumes nothing.
use Rattle.answer_numbers.specs.Numbers.{PartFits, part_numbers}
use Rattle.tegzhumbi_c.proofs.FourBytes.{told, name-fits}
use Rattle.tegzhumbi_c.proofs.tegzhumbi_sound_name.Goals as goal

pub returns : goal.returns
returns c = λ s. told PartFits part_numbers c.part_numbers.ensures (name-fits _ _ _) (c.name_place_in_sound.ensures s)
