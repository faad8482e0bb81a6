-- `bitset::clear` meets its contract: as many zeros are the set of no number. Assumes nothing.
use mathlib.Core.Path.{◌∙◌}
use Rattle.bitset.proofs.SetLaws.{none-set_of}
use Rattle.bitset.specs.Sets.{emptied}
use Rattle.bitset.proofs.clear.Goals as goal

pub returns : goal.returns
unfolding emptied
returns c = c.fill.ensures.after (λ y e. e) ∙ none-set_of _
