-- The mask of some permissions of a class: "masks are not 0", and no bit is beyond the class's permissions. Assumes nothing.
use Prim.Native.Nat.{ℕ, zero, suc, ◌^◌, ◌≤◌, ◌<◌, suc-le-suc}
use native.Mathlib.Nat.{not-suc-le-zero, le_of_suc-le-suc, zero-lt-suc, pow-suc}
use native.Mathlib.Omega.{arith}
use mathlib.Core.Path.{◌≡◌, refl, ap}
use mathlib.Core.Bool.{Bool, true, false, ◌||◌}
use mathlib.Core.List.{List, [], ◌∷◌}
use lib.Dec.{eqb}
use lib.ListN.{length}
use lib.Arith.{digits_lt}
use borrow.Author.Tests.{eqb-true, eq-eqb}
use Rattle.bitset.specs.Sets.{one, from_bits}
use Rattle.policy.specs.Basics.{any, is_among, All}
use Rattle.policy.specs.Image.{mask_of}
use Rattle.bitset.proofs.BitLaws.{one-lt}
use Rattle.policy.proofs.Gathered.{any-holds}

-- a number whose bits from bit n on are 0 is below 2 ^ n
pub from_bits-below : (w n : ℕ) (f : ℕ → Bool) → ((k : ℕ) → n ≤ k → f k ≡ false) → from_bits w f < 2 ^ n
unfolding from_bits
from_bits-below zero zero f h = zero-lt-suc 0
from_bits-below zero (suc n) f h =
    let less : 0 < 2 ^ n = from_bits-below zero n (λ k. false) (λ k l. refl) in
    rw pow-suc (omega arith)
from_bits-below (suc w) zero f h = omega (arith, from_bits-below w zero (λ k. f (suc k)) (λ k l. h (suc k) (omega arith)), ap one (h 0 (omega arith)))
from_bits-below (suc w) (suc n) f h =
    rw pow-suc (digits_lt (from_bits-below w n (λ k. f (suc k)) (λ k l. h (suc k) (suc-le-suc l))) (one-lt (f 0)))

-- a number with a bit is not 0
pub from_bits-positive : (w k : ℕ) (f : ℕ → Bool) → k < w → f k ≡ true → 0 < from_bits w f
unfolding from_bits
from_bits-positive zero k f l h = absurd (not-suc-le-zero l)
from_bits-positive (suc w) zero f l h = omega (arith, ap one h)
from_bits-positive (suc w) (suc k) f l h =
    omega (arith, from_bits-positive w k (λ j. f (suc j)) (le_of_suc-le-suc l) h)

among_below : (n : ℕ) (ps : List ℕ) (k : ℕ) → All (λ j. j < n) ps → is_among k ps ≡ true → k < n
unfolding is_among
among_below n ps k h e = any-holds (λ (j : ℕ). j < n) (eqb k) (λ j l q. omega (arith, eqb-true k j q)) ps h e

among-not : (n : ℕ) (ps : List ℕ) (k : ℕ) → All (λ j. j < n) ps → n ≤ k → is_among k ps ≡ false
among-not n ps k h l = by (is_among k ps) refl
  where
    by : (b : Bool) → is_among k ps ≡ b → is_among k ps ≡ false
    by true q = absurd (omega (arith, among_below n ps k h q))
    by false q = q

pub mask_below : (n : ℕ) (ps : List ℕ) → All (λ j. j < n) ps → mask_of ps < 2 ^ n
unfolding mask_of
mask_below n ps h = from_bits-below 32 n (λ k. is_among k ps) (λ k l. among-not n ps k h l)

pub mask-positive : (n : ℕ) (ps : List ℕ) → All (λ j. j < n) ps → n ≤ 32 → 0 < length ps → 0 < mask_of ps
unfolding mask_of is_among any
mask-positive n [] h l some = absurd (omega arith)
mask-positive n (k ∷ ps) h l some = from_bits-positive 32 k (λ j. is_among j (k ∷ ps)) (omega (arith, h.0)) (ap (λ (b : Bool). b || any (eqb k) ps) (eq-eqb k k refl))
