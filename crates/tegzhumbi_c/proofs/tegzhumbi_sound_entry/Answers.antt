-- `tegzhumbi_sound_entry` meets its contract: the numbers of the answer on a sound table, which fit. Assumes nothing.
use Rattle.answer_numbers.specs.Numbers.{PartFits, part_numbers}
use Rattle.tegzhumbi_c.proofs.FourBytes.{told, entry-fits}
use Rattle.tegzhumbi_c.proofs.tegzhumbi_sound_entry.Goals as goal

pub returns : goal.returns
returns c = λ s. told PartFits part_numbers c.part_numbers.ensures (entry-fits _ _ _) (c.entry_place_in_sound.ensures s)
