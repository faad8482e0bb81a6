-- The zeros below the lowest set bit of a number, and what they say of a set: where a byte is shifted down to the bit of n, with a bit put above it,
-- they are the numbers from n on that are not in the set, up to the end of the byte. Assumes nothing.
use mathlib.Core.Path.{◌≡◌, refl, sym, ap, ◌∙◌}
use mathlib.Core.Bool.{true, false}
use mathlib.Core.List.{List}
use Prim.Native.Nat.{ℕ, zero, suc, ◌+◌, ◌-◌, ◌*◌, ◌/◌, ◌%◌, ◌^◌, ◌≤◌, ◌<◌}
use native.Mathlib.Nat.{add-zero, mod-lt, not-suc-le-zero, le_of_suc-le-suc}
use native.Mathlib.Omega.{arith}
use lib.Count.{count_trailing_zeros, under}
use lib.Dec.{eqb, leb, leb→le}
use lib.ListN.{get_or}
use lib.Pow.{shr-shr}
use Rattle.bitset.specs.Sets.{bit, member, Gap}
use Rattle.bitset.proofs.BitLaws.{two_pos, bit-low, bit_high}
use Rattle.bitset.proofs.SetLaws.{member-at}
use Rattle.bitset.proofs.Tests.{agree2, up_to, up_to-at}

-- the bits below the lowest set one
pub trailing-off : (d n j : ℕ) → j < count_trailing_zeros d n → bit n j ≡ false
unfolding count_trailing_zeros
trailing-off zero n j h = absurd (not-suc-le-zero h)
trailing-off (suc d) n j h = at j (n % 2) refl (trailing-off d (n / 2)) h
  where
    at : (j x : ℕ) → n % 2 ≡ x → ((i : ℕ) → i < count_trailing_zeros d (n / 2) → bit (n / 2) i ≡ false) → j < under x (count_trailing_zeros d (n / 2)) → bit n j ≡ false
    at j (suc x) e rest l = absurd (not-suc-le-zero l)
    at zero zero e rest l = bit-low n ∙ ap (λ (y : ℕ). eqb y 1) e
    at (suc j) zero e rest l = bit_high n j ∙ rest j (le_of_suc-le-suc l)

-- the lowest bit, where there are none below
pub trailing-on : (d n : ℕ) → count_trailing_zeros (suc d) n ≡ 0 → bit n 0 ≡ true
unfolding count_trailing_zeros
trailing-on d n h = at (n % 2) refl h (mod-lt n two_pos)
  where
    at : (x : ℕ) → n % 2 ≡ x → under x (count_trailing_zeros d (n / 2)) ≡ 0 → x < 2 → bit n 0 ≡ true
    at zero e z l = absurd (omega arith)
    at (suc zero) e z l = bit-low n ∙ ap (λ (y : ℕ). eqb y 1) e
    at (suc (suc x)) e z l = absurd (omega arith)

-- a bit of a number that is shifted down
bit_shifted : (b k j : ℕ) → bit (b / 2 ^ k) j ≡ bit b (k + j)
unfolding bit
bit_shifted b k j = ap (λ (x : ℕ). eqb (x % 2) 1) (shr-shr b k j)

-- the bit above a byte changes none of the byte's, and ends the count
bit-above : (b k : ℕ) → b < 256 → k < 8 → bit (256 + b) k ≡ bit b k
unfolding bit
bit-above = agree2 256 8 (λ b k. bit (256 + b) k) (λ b k. bit b k) tt

ends : (b k : ℕ) → b < 256 → k < 8 → count_trailing_zeros 64 ((256 + b) / 2 ^ k) + k ≤ 8
unfolding count_trailing_zeros
ends b k h l =
    leb→le (count_trailing_zeros 64 ((256 + b) / 2 ^ k) + k) 8
    (up_to-at 8 (λ k. leb (count_trailing_zeros 64 ((256 + b) / 2 ^ k) + k) 8) (up_to-at 256 (λ b. up_to 8 (λ k. leb (count_trailing_zeros 64 ((256 + b) / 2 ^ k) + k) 8)) tt b h) k l)

module _ (s : List ℕ) (n : ℕ) (small : get_or s (n / 8) 0 < 256) where
  -- a number that is not past the end of n's byte
  in-byte : (j : ℕ) → n % 8 + j < 8 → member s (n + j) ≡ bit ((256 + get_or s (n / 8) 0) / 2 ^ (n % 8)) j
  in-byte j l =
      let b = get_or s (n / 8) 0 in
      let e : n + j ≡ 8 * (n / 8) + (n % 8 + j) = omega arith in
      ap (member s) e ∙ member-at s (n / 8) (n % 8 + j) l ∙ sym (bit-above b (n % 8 + j) small l) ∙ sym (bit_shifted (256 + b) (n % 8) j)

  pub gap : Gap s n (count_trailing_zeros 64 ((256 + get_or s (n / 8) 0) / 2 ^ (n % 8)))
  gap = record { none = off; here = λ e. ap (member s) (sym (add-zero n)) ∙ in-byte 0 (omega arith) ∙ trailing-on 63 rest e }
    where
      rest : ℕ
      rest = (256 + get_or s (n / 8) 0) / 2 ^ (n % 8)

      off : (k : ℕ) → n ≤ k → k < n + count_trailing_zeros 64 rest → member s k ≡ false
      off k a l =
          let e : k ≡ n + (k - n) = omega arith in
          ap (member s) e ∙ in-byte (k - n) (omega (arith, ends (get_or s (n / 8) 0) (n % 8) small (omega arith))) ∙ trailing-off 64 rest (k - n) (omega arith)
