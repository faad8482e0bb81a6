-- `tegzhumbi_new_role` meets its contract: the numbers of the library's answer, which fit. Assumes nothing.
use Rattle.answer_numbers.specs.Numbers.{Fits, new_role_numbers}
use Rattle.tegzhumbi_c.proofs.FourBytes.{told, new-role-fits}
use Rattle.tegzhumbi_c.proofs.tegzhumbi_new_role.Goals as goal

pub returns : goal.returns
returns c = told Fits new_role_numbers c.new_role_numbers.ensures (new-role-fits _ _ _ _) c.new_role.ensures
