-- `declarations::number_for` meets its contract: what was looked up, and the count of the sort. Assumes nothing.
use Rattle.declarations.proofs.StatusLaws.{is-taken, is_free}
use Rattle.declarations.proofs.number_for.Goals as goal

pub returns-in-Some : goal.returns-in-Some
returns-in-Some c = record { stands = is-taken _ c.family_of-family.ensures c.find-tried.ensures _ _ c.in-Some.is; refuses = tt }

pub returns-in-None : goal.returns-in-None
returns-in-None c = record { stands = is_free _ c.family_of-family.ensures c.find-tried.ensures c.in-None.is c.count.ensures; refuses = tt }
