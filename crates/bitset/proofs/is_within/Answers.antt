-- `bitset::is_within` meets its contract: what is gathered is 0 where no byte passed has a bit beyond its mask. Assumes nothing.
use Rattle.std.proofs.Common.{◌≡◌, ℕ, ◌-◌, get_or, refl, arith, below_more}
use Rattle.std.proofs.lemmas.Bool.{eqb-true}
use lib.Bits.{bit_and, or_add_and, and_le_l, and_le_r}
use Rattle.bitset.specs.Sets.{mask_of}
use Rattle.bitset.proofs.AllLaws.{within-is}
use Rattle.bitset.proofs.is_within.Goals as goal

pub loop-i-init : goal.loop-i-init
loop-i-init c = ((λ e k h. omega arith), (λ h. refl))

pub loop-i-preserved : goal.loop-i-preserved
loop-i-preserved c =
    let i = c.loop-i.i in
    let x = bit_and (get_or c.args.set.now i 0) (255 - mask_of c.args.total i) in
    let sum = or_add_and c.loop-i.beyond x in
    let low = and_le_l c.loop-i.beyond x in
    let high = and_le_r c.loop-i.beyond x in
    rw c.mask.ensures (
      (λ e.
          let before : c.loop-i.beyond ≡ 0 = omega (arith, e, sum, high) in
          let here : x ≡ 0 = omega (arith, e, sum, low) in
          below_more _ _ (c.loop-i.invariant.0 before) here),
      (λ h. omega (arith, sum, c.loop-i.invariant.1 (λ k l. h k (omega arith)), h i (omega arith))),
    )

pub returns : goal.returns
returns c =
    within-is _ _ _ (λ i. (c.type_inv.set i).fits)
    ((λ e i h. c.loop-i.invariant.0 (eqb-true _ _ e) i (omega arith)), (λ h. rw (c.loop-i.invariant.1 (λ k l. h k (omega arith))) refl))
