-- A test of every number below a bound, one number after the other. Assumes nothing.
use Prim.Native.Nat.{ℕ, ◌+◌, ◌<◌}
use native.Mathlib.Numerals.{add-one}
use mathlib.Core.Path.{◌≡◌, sym, ap, ◌∙◌}
use mathlib.Core.Bool.{Bool, false, ◌&&◌, false≢true}
use Rattle.bitset.specs.Sets.{all_below}
use Rattle.bitset.proofs.AllLaws.{either, all_below-at}

module _ (f : ℕ → Bool) where
  -- one number more, whose test says t
  pub below_more : (i : ℕ) (t : Bool) → f i ≡ t → (t && all_below i f) ≡ all_below (i + 1) f
  unfolding all_below
  below_more i t e = rw (add-one i) (ap (λ (b : Bool). b && all_below i f) (sym e))

  pub below-not : (n i : ℕ) → i < n → f i ≡ false → false ≡ all_below n f
  below-not n i l e = either (all_below n f) (λ t. absurd (false≢true (sym e ∙ all_below-at n f t i l))) sym
