-- `set_operators::meets` meets its contract: the chain asks whether two bytes at one place have a bit in common. Assumes nothing.
use Rattle.std.proofs.Common.{rules}
use Rattle.set_operators.proofs.TestLaws.{meets-is}
use Rattle.set_operators.proofs.meets.Goals as goal

pub returns : goal.returns
returns c = meets-is _ _ _ (λ i. (c.type_inv.a i).fits) (search rules)
