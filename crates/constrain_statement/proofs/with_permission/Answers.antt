-- `constrain_statement::with_permission` meets its contract. Assumes nothing.
use Rattle.constrain_statement.proofs.MaskBits.{with-bit}
use borrow.Author.Rules.{rules}
use Rattle.constrain_statement.proofs.with_permission.Goals as goal

pub returns : goal.returns
returns c = with-bit _ _ (search rules) (search rules)
