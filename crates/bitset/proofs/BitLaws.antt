-- A number and its bits: what `|`, `&` and `^` do to each bit, and that a number of w bits is told by its bits. Assumes nothing.
use mathlib.Core.Path.{◌≡◌, refl, sym, ap, ap₂, ◌∙◌}
use mathlib.Core.Bool.{Bool, true, false, ◌&&◌, ◌||◌, xor}
use Prim.Native.Nat.{ℕ, zero, suc, ◌*◌, ◌+◌, ◌/◌, ◌%◌, ◌^◌, ◌<◌, suc-le-suc}
use native.Mathlib.Nat.{div-one, zero-div, mod-lt, zero-lt-suc, not-suc-le-zero, le_of_suc-le-suc, pow-suc, div-add-mod'}
use native.Mathlib.Numerals.{one-add, add-one}
use native.Mathlib.Omega.{arith}
use lib.Dec.{eqb}
use lib.Arith.{digits_div, digits_mod, digits_lt, lt-one}
use lib.Pow.{shr-shr, shr_lt}
use lib.Bits.{bit_and, bit_or, bit_xor, and_shr, or_shr, xor_shr, and_mod, or_mod, xor_mod}
use Rattle.bitset.specs.Sets.{bit, one, from_bits}

-- ---- digits

pub two_pos : zero < 2
two_pos = zero-lt-suc 1

digit : (P : ℕ → Type 0) → P 0 → P 1 → (x : ℕ) → x < 2 → P x
digit P a b zero h = a
digit P a b (suc zero) h = b
digit P a b (suc (suc x)) h = absurd (not-suc-le-zero (le_of_suc-le-suc (le_of_suc-le-suc h)))

-- what holds of the four pairs of digits holds of the lowest digits of any two numbers
digits2 : (P : ℕ → ℕ → Type 0) → P 0 0 → P 0 1 → P 1 0 → P 1 1 → (x y : ℕ) → P (x % 2) (y % 2)
digits2 P p00 p01 p10 p11 x y =
    digit (λ (a : ℕ). P a (y % 2))
    (digit (P 0) p00 p01 (y % 2) (mod-lt y two_pos))
    (digit (P 1) p10 p11 (y % 2) (mod-lt y two_pos))
    (x % 2) (mod-lt x two_pos)

-- ---- the bits of an operation on two numbers, for any operation that goes digit by digit
module _ (op : ℕ → ℕ → ℕ) (f : Bool → Bool → Bool)
    (op_shr : (a b k : ℕ) → op a b / 2 ^ k ≡ op (a / 2 ^ k) (b / 2 ^ k))
    (op-mod : (a b k : ℕ) → op a b % 2 ^ k ≡ op (a % 2 ^ k) (b % 2 ^ k))
    (on-digits : (x y : ℕ) → eqb (op (x % 2) (y % 2)) 1 ≡ f (eqb (x % 2) 1) (eqb (y % 2) 1)) where
  bit-op : (a b k : ℕ) → bit (op a b) k ≡ f (bit a k) (bit b k)
  unfolding bit
  bit-op a b k = rw (op_shr a b k, op-mod (a / 2 ^ k) (b / 2 ^ k) 1) (on-digits (a / 2 ^ k) (b / 2 ^ k))

pub bit-or : (a b k : ℕ) → bit (bit_or a b) k ≡ (bit a k || bit b k)
bit-or = bit-op bit_or ◌||◌ or_shr or_mod (digits2 (λ (x y : ℕ). eqb (bit_or x y) 1 ≡ (eqb x 1 || eqb y 1)) refl refl refl refl)

pub bit-and : (a b k : ℕ) → bit (bit_and a b) k ≡ (bit a k && bit b k)
bit-and = bit-op bit_and ◌&&◌ and_shr and_mod (digits2 (λ (x y : ℕ). eqb (bit_and x y) 1 ≡ (eqb x 1 && eqb y 1)) refl refl refl refl)

pub bit-xor : (a b k : ℕ) → bit (bit_xor a b) k ≡ xor (bit a k) (bit b k)
unfolding xor
bit-xor = bit-op bit_xor xor xor_shr xor_mod (digits2 (λ (x y : ℕ). eqb (bit_xor x y) 1 ≡ xor (eqb x 1) (eqb y 1)) refl refl refl refl)

-- ---- a number and its bits

pub bit-zero : (k : ℕ) → bit 0 k ≡ false
unfolding bit
bit-zero k = rw zero-div

pub bit-low : (b : ℕ) → bit b 0 ≡ eqb (b % 2) 1
unfolding bit
bit-low b = rw div-one

pub bit_high : (b k : ℕ) → bit b (suc k) ≡ bit (b / 2) k
unfolding bit
bit_high b k = ap (λ (x : ℕ). eqb (x % 2) 1) (ap (λ (x : ℕ). b / 2 ^ x) (sym (one-add k)) ∙ sym (shr-shr b 1 k))

pub one-lt : (b : Bool) → one b < 2
one-lt false = omega arith
one-lt true = omega arith

one-eqb : (b : Bool) → eqb (one b) 1 ≡ b
one-eqb false = refl
one-eqb true = refl

pub eqb-one : (x : ℕ) → x < 2 → one (eqb x 1) ≡ x
eqb-one = digit (λ (x : ℕ). one (eqb x 1) ≡ x) refl refl

pub bit-from_bits : (w : ℕ) (f : ℕ → Bool) (k : ℕ) → k < w → bit (from_bits w f) k ≡ f k
unfolding from_bits
bit-from_bits zero f k h = absurd (not-suc-le-zero h)
bit-from_bits (suc w) f zero h =
    bit-low (from_bits (suc w) f) ∙ ap (λ (x : ℕ). eqb x 1) (digits_mod (from_bits w (λ j. f (suc j))) (one-lt (f 0))) ∙ one-eqb (f 0)
bit-from_bits (suc w) f (suc k) h =
    bit_high (from_bits (suc w) f) k ∙ ap (λ (x : ℕ). bit x k) (digits_div (from_bits w (λ j. f (suc j))) (one-lt (f 0)))
    ∙ bit-from_bits w (λ j. f (suc j)) k (le_of_suc-le-suc h)

pub from_bits-ext : (w : ℕ) (f g : ℕ → Bool) → ((k : ℕ) → k < w → f k ≡ g k) → from_bits w f ≡ from_bits w g
unfolding from_bits
from_bits-ext zero f g h = refl
from_bits-ext (suc w) f g h =
    ap₂ (λ (x : ℕ) (b : Bool). x * 2 + one b) (from_bits-ext w (λ k. f (suc k)) (λ k. g (suc k)) (λ k l. h (suc k) (suc-le-suc l))) (h 0 (zero-lt-suc w))

pub from_bits-lt : (w : ℕ) (f : ℕ → Bool) → from_bits w f < 2 ^ w
unfolding from_bits
from_bits-lt zero f = zero-lt-suc 0
from_bits-lt (suc w) f = rw pow-suc (digits_lt (from_bits-lt w (λ k. f (suc k))) (one-lt (f 0)))

pub half_lt : (w b : ℕ) → b < 2 ^ suc w → b / 2 < 2 ^ w
half_lt w b h = shr_lt w 1 (rw add-one h)

pub from_bits-bit : (w b : ℕ) → b < 2 ^ w → from_bits w (bit b) ≡ b
unfolding from_bits
from_bits-bit zero b h = sym (lt-one h)
from_bits-bit (suc w) b h =
    ap₂ (λ (x : ℕ) (d : Bool). x * 2 + one d) (from_bits-ext w (λ k. bit b (suc k)) (bit (b / 2)) (λ k l. bit_high b k) ∙ from_bits-bit w (b / 2) (half_lt w b h)) (bit-low b)
    ∙ ap (λ (x : ℕ). b / 2 * 2 + x) (eqb-one (b % 2) (mod-lt b two_pos)) ∙ div-add-mod' b 2

-- a number of w bits is told by its bits
pub bits-eq : (w v : ℕ) (f : ℕ → Bool) → v < 2 ^ w → ((k : ℕ) → k < w → bit v k ≡ f k) → v ≡ from_bits w f
bits-eq w v f l h = sym (from_bits-bit w v l) ∙ from_bits-ext w (bit v) f h
