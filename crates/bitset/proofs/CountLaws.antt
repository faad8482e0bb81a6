-- How many numbers a rule is true of, and that the count of ones of each byte adds up to it. Assumes nothing.
use mathlib.Core.Path.{◌≡◌, refl, sym, ap, ap₂, ◌∙◌}
use mathlib.Core.Bool.{Bool, false}
use mathlib.Core.List.{List}
use Prim.Native.Nat.{ℕ, zero, suc, ◌+◌, ◌*◌, ◌/◌, ◌%◌, ◌^◌, ◌≤◌, ◌<◌}
use native.Mathlib.Nat.{mod-lt, add-zero, add-suc}
use native.Mathlib.Omega.{arith}
use lib.Arith.{lt-one}
use lib.Count.{ones, ones_step}
use lib.ListN.{get_or}
use Rattle.bitset.specs.Sets.{bit, member, one, count_below}
use Rattle.bitset.proofs.BitLaws.{bit-low, bit_high, one-lt, eqb-one, two_pos, half_lt}
use Rattle.bitset.proofs.SetLaws.{member-at}

pub count_below-ext : (n : ℕ) (f g : ℕ → Bool) → ((k : ℕ) → k < n → f k ≡ g k) → count_below n f ≡ count_below n g
unfolding count_below
count_below-ext zero f g h = refl
count_below-ext (suc n) f g h = ap₂ (λ (x : ℕ) (b : Bool). x + one b) (count_below-ext n f g (λ k l. h k (omega arith))) (h n (omega arith))

pub count_below-le : (n : ℕ) (f : ℕ → Bool) → count_below n f ≤ n
unfolding count_below
count_below-le zero f = omega arith
count_below-le (suc n) f = omega (arith, count_below-le n f, one-lt (f n))

pub count_below-add : (m n : ℕ) (f : ℕ → Bool) → count_below (m + n) f ≡ count_below m f + count_below n (λ k. f (m + k))
unfolding count_below
count_below-add m zero f = rw (add-zero m, add-zero (count_below m f))
count_below-add m (suc n) f = rw add-suc (omega (arith, count_below-add m n f))

count_below-suc : (n : ℕ) (f : ℕ → Bool) → count_below (suc n) f ≡ one (f 0) + count_below n (λ k. f (suc k))
unfolding count_below
count_below-suc zero f = omega arith
count_below-suc (suc n) f = omega (arith, count_below-suc n f)

-- the count of the ones of a number of w bits
pub ones-count : (w b : ℕ) → b < 2 ^ w → ones b ≡ count_below w (bit b)
unfolding count_below ones
ones-count zero b h = ap ones (lt-one h)
ones-count (suc w) b h =
    ones_step b
    ∙ ap₂ ◌+◌ (sym (eqb-one (b % 2) (mod-lt b two_pos)) ∙ ap one (sym (bit-low b)))
    (ones-count w (b / 2) (half_lt w b h) ∙ count_below-ext w (bit (b / 2)) (λ k. bit b (suc k)) (λ k l. sym (bit_high b k)))
    ∙ sym (count_below-suc w (bit b))

-- one byte more is counted
pub count-byte : (s : List ℕ) (i : ℕ) → get_or s i 0 < 256 → count_below (8 * (i + 1)) (member s) ≡ count_below (8 * i) (member s) + ones (get_or s i 0)
count-byte s i h =
    let e : 8 * (i + 1) ≡ 8 * i + 8 = omega arith in
    ap (λ (x : ℕ). count_below x (member s)) e ∙ count_below-add (8 * i) 8 (member s)
    ∙ ap (λ (x : ℕ). count_below (8 * i) (member s) + x)
    (count_below-ext 8 (λ k. member s (8 * i + k)) (bit (get_or s i 0)) (λ k l. member-at s i k l) ∙ sym (ones-count 8 (get_or s i 0) h))

-- ---- for callers

nothing : (m : ℕ) → count_below m (λ k. false) ≡ 0
unfolding count_below
nothing zero = refl
nothing (suc m) = add-zero (count_below m (λ k. false)) ∙ nothing m
