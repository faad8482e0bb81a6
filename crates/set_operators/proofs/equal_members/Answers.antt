-- `set_operators::equal_members` meets its contract: the chain asks of every place whether the two have the same byte there. Assumes nothing.
use Rattle.std.proofs.Common.{◌≡◌, ◌≢◌, get_or, refl, rules, tests}
use native.Mathlib.Nat.{sub-zero}
use Rattle.std.proofs.lemmas.Iterator.{cases_from_all, YieldsList-from_range}
use Rattle.set_operators.proofs.TestLaws.{equal-is}
use Rattle.set_operators.proofs.equal_members.Goals as goal

pub returns : goal.returns
returns c =
    let a = c.args.a.now in
    let b = c.args.b.now in
    equal-is a b _ c.max-longer.result (λ i. (c.type_inv.a i).fits) (λ i. (c.type_inv.b i).fits) c.max-longer.ensures
    (cases_from_all _ _ _ (λ i. get_or a i 0 ≡ get_or b i 0) (λ i. get_or a i 0 ≢ get_or b i 0) c.all.ensures.ran
    (YieldsList-from_range 0 _ c.max-longer.result refl (sub-zero _)) (λ x q k. search (rules, tests)) (λ x q k. search (rules, tests)))
