-- The LF bytes in front of a place, one byte after the other. Assumes nothing.
use mathlib.Core.Path.{◌≡◌, refl, ap, ◌∙◌}
use mathlib.Core.Bool.{Bool, true, false, cond}
use mathlib.Core.List.{List, [], ◌∷◌}
use Prim.Native.Nat.{ℕ, zero, suc, ◌+◌, ◌≤◌, ◌<◌}
use native.Mathlib.Omega.{arith}
use borrow.Author.Tests.{eq-eqb, ne_eqb}
use lib.Dec.{eqb}
use lib.ListN.{length, get_or, take}
use Rattle.policy.specs.Outcome.{line_feeds}

-- there are no more than bytes
pub feeds-few : (n : ℕ) (t : List ℕ) → line_feeds (take n t) ≤ n
unfolding line_feeds
feeds-few zero t = omega arith
feeds-few (suc n) [] = omega arith
feeds-few (suc n) (b ∷ t) = by (eqb b 10) (feeds-few n t)
  where
    by : (e : Bool) → line_feeds (take n t) ≤ n → cond e (1 + line_feeds (take n t)) (line_feeds (take n t)) ≤ suc n
    by true h = omega arith
    by false h = omega arith

-- two bytes count in any order
swapped : (p q : Bool) (f : ℕ) → cond p (1 + cond q (1 + f) f) (cond q (1 + f) f) ≡ cond q (1 + cond p (1 + f) f) (cond p (1 + f) f)
swapped true true f = refl
swapped true false f = refl
swapped false true f = refl
swapped false false f = refl

-- one byte more
pub feeds-more : (t : List ℕ) (i : ℕ) → i < length t
    → line_feeds (take (suc i) t) ≡ cond (eqb (get_or t i 0) 10) (1 + line_feeds (take i t)) (line_feeds (take i t))
unfolding line_feeds
feeds-more [] i h = absurd (omega (arith, h))
feeds-more (b ∷ t) zero h = refl
feeds-more (b ∷ t) (suc i) h =
    ap (λ (f : ℕ). cond (eqb b 10) (1 + f) f) (feeds-more t i (omega (arith, h))) ∙ swapped (eqb b 10) (eqb (get_or t i 0) 10) (line_feeds (take i t))

-- which is an LF, or is not
module _ (t : List ℕ) (i : ℕ) (h : i < length t) where
  pub feed-here : get_or t i 0 ≡ 10 → line_feeds (take (suc i) t) ≡ 1 + line_feeds (take i t)
  feed-here e = feeds-more t i h ∙ rw (eq-eqb (get_or t i 0) 10 e) refl

  pub no-feed-here : (get_or t i 0 ≡ 10 → ⊥) → line_feeds (take (suc i) t) ≡ line_feeds (take i t)
  no-feed-here e = feeds-more t i h ∙ rw (ne_eqb (get_or t i 0) 10 e) refl
