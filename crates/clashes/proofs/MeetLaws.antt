-- A number of which two rules are both true. Assumes nothing.
use mathlib.Core.Path.{◌≡◌, refl, sym, ap, ap₂, ◌∙◌}
use mathlib.Core.Bool.{Bool, true, false, not, ◌&&◌, ◌||◌}
use Prim.Native.Nat.{ℕ, zero, suc, ◌*◌, ◌≤◌, ◌<◌}
use native.Mathlib.Decide.{dec_lt}
use native.Mathlib.Omega.{arith}
use Rattle.bitset.specs.Sets.{member, set_of, all_below, meet, meets}
use Rattle.bitset.proofs.AllLaws.{either, clash, all_below-of, all_below-at, meet-apart}
use Rattle.bitset.proofs.SetLaws.{member-set_of, length-set_of}

pub meet-ext : (n : ℕ) (f g h k : ℕ → Bool) → ((i : ℕ) → i < n → f i ≡ h i) → ((i : ℕ) → i < n → g i ≡ k i) → meet n f g ≡ meet n h k
unfolding meet
meet-ext zero f g h k p q = refl
meet-ext (suc n) f g h k p q =
    ap₂ ◌||◌ (ap₂ ◌&&◌ (p n (omega arith)) (q n (omega arith))) (meet-ext n f g h k (λ i l. p i (omega arith)) (λ i l. q i (omega arith)))

pub meet-none : (n : ℕ) (f g : ℕ → Bool) → ((k : ℕ) → k < n → (f k && g k) ≡ false) → meet n f g ≡ false
meet-none n f g h = meet-apart n f g ∙ ap not (all_below-of n (λ k. not (f k && g k)) (λ k l. ap not (h k l)))

-- where one of them is false from a total on, only the numbers below it count
pub meet-bounded : (total n : ℕ) (f g : ℕ → Bool) → total ≤ n → ((k : ℕ) → total ≤ k → k < n → f k ≡ false) → meet n f g ≡ meet total f g
meet-bounded total n f g l h =
    meet-apart n f g
    ∙ ap not (either (all_below n rule) (λ t. t ∙ sym (all_below-of total rule (λ k m. all_below-at n rule t k (omega arith)))) (λ e. e ∙ sym (fails e)))
    ∙ sym (meet-apart total f g)
  where
    rule : ℕ → Bool
    rule k = not (f k && g k)

    fails : all_below n rule ≡ false → all_below total rule ≡ false
    fails e =
        either (all_below total rule)
        (λ t. absurd (clash (all_below n rule) (all_below-of n rule (λ k m. at k m t (dec_lt k total))) e))
        (λ b. b)
      where
        at : (k : ℕ) → k < n → all_below total rule ≡ true → Dec (k < total) → rule k ≡ true
        at k m t (yes q) = all_below-at total rule t k q
        at k m t (no q) = ap (λ (b : Bool). not (b && g k)) (h k (omega arith) m)

pub meets-set_of : (w : ℕ) (f g : ℕ → Bool) → meets (set_of w f) (set_of w g) ≡ meet (8 * w) f g
unfolding meets
meets-set_of w f g =
    ap (λ (v : ℕ). meet (8 * v) (member (set_of w f)) (member (set_of w g))) (length-set_of w f)
    ∙ meet-ext (8 * w) (member (set_of w f)) (member (set_of w g)) f g (member-set_of w f) (member-set_of w g)
