-- `scopes::try_in` meets its contract: the full name is put together and looked for; one that is too long is found nowhere. Assumes nothing.
use Rattle.byte_slices.specs.Parts.{part}
use Rattle.name_chains.proofs.FindLaws.{tries-as}
use Rattle.scopes.proofs.TryLaws.{too-long-tries}
use Rattle.scopes.proofs.try_in.Goals as goal

pub returns-in_default : goal.returns-in_default
returns-in_default c = too-long-tries c.in_default.ensures.is

pub returns : goal.returns
unfolding part
returns c = tries-as c.in-Some.ensures.is.0 c.find.ensures
