-- `name_spelling::may_be_reserved` meets its contract. Assumes nothing.
use Rattle.name_spelling.specs.Spelling.{may_be_reserved}
use Rattle.name_spelling.proofs.may_be_reserved.Goals as goal

pub returns : goal.returns
unfolding may_be_reserved
returns c = rw c.endings.ensures
