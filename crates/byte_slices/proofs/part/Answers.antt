-- `byte_slices::part` meets its contract: from the cut start to the cut end. Assumes nothing.
use Rattle.byte_slices.proofs.PartLaws.{part-lent}
use Rattle.byte_slices.proofs.part.Goals as goal

pub returns : goal.returns
returns c = part-lent _ _ _ _ _ c.range_of.ensures.start c.range_of.ensures.end
