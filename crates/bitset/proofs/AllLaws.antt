-- What is true of every number below a bound, and the test of it a byte at a time: a byte has the bits of the numbers of which the rule is
-- false. Assumes nothing.
use mathlib.Core.Path.{◌≡◌, refl, sym, ap, ap₂, ◌∙◌}
use mathlib.Core.Bool.{Bool, true, false, not, ◌&&◌, ◌||◌, or-true}
use mathlib.Core.List.{List}
use mathlib.Core.Logic.{⊎_elim}
use Prim.Native.Nat.{ℕ, zero, suc, ◌+◌, ◌-◌, ◌*◌, ◌/◌, ◌%◌, ◌≤◌, ◌<◌}
use native.Mathlib.Nat.{not-suc-le-zero, le_of_suc-le-suc, eq-or-lt_of_le, lt_of_le_of_lt}
use native.Mathlib.Decide.{dec_lt}
use native.Mathlib.Omega.{arith}
use lib.Bits.{bit_and, and_le_l}
use Rattle.std.proofs.Common.{◌↔◌}
use lib.Dec.{ltb}
use lib.ListN.{length, get_or}
use borrow.Author.Tests.{le-ltb, lt-ltb}
use Rattle.bitset.specs.Sets.{bit, member, from_bits, set_of, mask_of, all_below, meet, within}
use Rattle.bitset.proofs.BitLaws.{bit-and, bit-from_bits, from_bits-lt, bit-zero, bits-eq}
use Rattle.bitset.proofs.SetLaws.{member-at, member-past, member-set_of, length-set_of}
use Rattle.bitset.proofs.Tests.{bit_not}

-- a Bool is true or false, with the equation
pub either {ℓ} : {P : Type ℓ} (b : Bool) → (b ≡ true → P) → (b ≡ false → P) → P
either true f g = f refl
either false f g = g refl

pub clash : (b : Bool) → b ≡ true → b ≡ false → ⊥
clash b p q = let z : ◌≡◌ {A = ℕ} 0 1 = cc in omega arith

pub not-true : (b : Bool) → not b ≡ true → b ≡ false
not-true true e = sym e
not-true false e = refl

pub all_below-of : (n : ℕ) (f : ℕ → Bool) → ((k : ℕ) → k < n → f k ≡ true) → all_below n f ≡ true
unfolding all_below
all_below-of zero f h = refl
all_below-of (suc n) f h = ap₂ ◌&&◌ (h n (omega arith)) (all_below-of n f (λ k l. h k (omega arith)))

pub all_below-at : (n : ℕ) (f : ℕ → Bool) → all_below n f ≡ true → (k : ℕ) → k < n → f k ≡ true
unfolding all_below
all_below-at zero f e k h = absurd (not-suc-le-zero h)
all_below-at (suc n) f e k h =
    either (f n)
    (λ p. ⊎_elim (λ q. ap f q ∙ p) (λ l. all_below-at n f (sym (ap (λ (b : Bool). b && all_below n f) p) ∙ e) k l) (eq-or-lt_of_le (le_of_suc-le-suc h)))
    (λ p. absurd (clash (f n && all_below n f) e (ap (λ (b : Bool). b && all_below n f) p)))

pub all_below-ext : (n : ℕ) (f g : ℕ → Bool) → ((k : ℕ) → k < n → f k ≡ g k) → all_below n f ≡ all_below n g
unfolding all_below
all_below-ext zero f g h = refl
all_below-ext (suc n) f g h = ap₂ ◌&&◌ (h n (omega arith)) (all_below-ext n f g (λ k l. h k (omega arith)))

-- ---- the test of a byte

abbrev pub within_rule : ℕ → List ℕ → ℕ → Bool
within_rule total s n = not (member s n) || ltb n total

-- a byte without the mask has the numbers that reach the total
pub within-bits : (total : ℕ) (s : List ℕ) (i k : ℕ) → k < 8
    → within_rule total s (8 * i + k) ≡ not (bit (bit_and (get_or s i 0) (255 - mask_of total i)) k)
unfolding mask_of
within-bits total s i k l =
    let b = get_or s i 0 in
    let m = from_bits 8 (λ j. ltb (8 * i + j) total) in
    ap₂ (λ (x y : Bool). not x || y) (member-at s i k l) (sym (bit-from_bits 8 (λ j. ltb (8 * i + j) total) k l)) ∙ implies (bit b k) (bit m k)
    ∙ ap not (ap (λ (x : Bool). bit b k && x) (sym (bit_not m k (from_bits-lt 8 _) l)) ∙ sym (bit-and b (255 - m) k))
  where
    implies : (x y : Bool) → (not x || y) ≡ not (x && not y)
    implies true true = refl
    implies true false = refl
    implies false y = refl

-- the set is within the total where no byte has such a number, and nowhere else
within-all : (total : ℕ) (s : List ℕ) → ((i : ℕ) → i < length s → bit_and (get_or s i 0) (255 - mask_of total i) ≡ 0) → within total s ≡ true
unfolding within
within-all total s h =
    all_below-of (8 * length s) (within_rule total s)
    (λ n l.
    let split : 8 * (n / 8) + n % 8 ≡ n = omega arith in
    ap (within_rule total s) (sym split) ∙ within-bits total s (n / 8) (n % 8) (omega arith)
    ∙ ap not (ap (λ (x : ℕ). bit x (n % 8)) (h (n / 8) (omega arith)) ∙ bit-zero (n % 8)))

within-at : (total : ℕ) (s : List ℕ) → ((i : ℕ) → get_or s i 0 < 256) → within total s ≡ true → (i : ℕ) → i < length s
    → bit_and (get_or s i 0) (255 - mask_of total i) ≡ 0
unfolding within from_bits
within-at total s small e i h =
    let x = bit_and (get_or s i 0) (255 - mask_of total i) in
    bits-eq 8 x (λ k. false) (lt_of_le_of_lt (and_le_l (get_or s i 0) (255 - mask_of total i)) (small i))
    (λ k l. not-true (bit x k) (sym (within-bits total s i k l) ∙ all_below-at (8 * length s) (within_rule total s) e (8 * i + k) (omega arith)))

-- so a test of the bytes is one of the set
pub within-is : (total : ℕ) (s : List ℕ) (r : Bool) → ((i : ℕ) → get_or s i 0 < 256)
    → (r ≡ true) ↔ ((i : ℕ) → i < length s → bit_and (get_or s i 0) (255 - mask_of total i) ≡ 0) → r ≡ within total s
within-is total s r small h = same r (within total s) (λ e. within-all total s (h.0 e)) (λ e. h.1 (within-at total s small e))
  where
    same : (x y : Bool) → (x ≡ true → y ≡ true) → (y ≡ true → x ≡ true) → x ≡ y
    same true y p q = sym (p refl)
    same false true p q = q refl
    same false false p q = refl

-- ---- what the test says, for callers

-- every number in the set is below the total, and the other way round
pub within-below : (total : ℕ) (s : List ℕ) → within total s ≡ true → (n : ℕ) → total ≤ n → member s n ≡ false
unfolding within
within-below total s e n l = at (dec_lt n (8 * length s))
  where
    at : Dec (n < 8 * length s) → member s n ≡ false
    at (yes h) =
        either (member s n)
        (λ p. absurd (clash (within_rule total s n) (all_below-at (8 * length s) (within_rule total s) e n h)
        (ap₂ (λ (x y : Bool). not x || y) p (le-ltb n total l))))
        (λ p. p)
    at (no h) = member-past s n (omega arith)

pub within_of : (total : ℕ) (s : List ℕ) → ((n : ℕ) → total ≤ n → member s n ≡ false) → within total s ≡ true
unfolding within
within_of total s h = all_below-of (8 * length s) (within_rule total s) (λ n l. at n (dec_lt n total))
  where
    at : (n : ℕ) → Dec (n < total) → within_rule total s n ≡ true
    at n (yes q) = ap (λ (x : Bool). not (member s n) || x) (lt-ltb n total q) ∙ or-true (not (member s n))
    at n (no q) = ap (λ (x : Bool). not x || ltb n total) (h n (omega arith))

-- the rule says it of a set that is written by a rule
pub within-set_of : (total w : ℕ) (f : ℕ → Bool) → within total (set_of w f) ≡ all_below (8 * w) (λ n. not (f n) || ltb n total)
unfolding within
within-set_of total w f =
    ap (λ (v : ℕ). all_below (8 * v) (within_rule total (set_of w f))) (length-set_of w f)
    ∙ all_below-ext (8 * w) (within_rule total (set_of w f)) (λ n. not (f n) || ltb n total)
    (λ n l. ap (λ (b : Bool). not b || ltb n total) (member-set_of w f n l))

-- ---- a number of which two rules are both true

-- there is none where at every number one of the two is false
pub meet-apart : (n : ℕ) (f g : ℕ → Bool) → meet n f g ≡ not (all_below n (λ k. not (f k && g k)))
unfolding meet all_below
meet-apart zero f g = refl
meet-apart (suc n) f g = ap (λ (b : Bool). f n && g n || b) (meet-apart n f g) ∙ or-not (f n && g n) (all_below n (λ k. not (f k && g k)))
  where
    or-not : (a b : Bool) → (a || not b) ≡ not (not a && b)
    or-not true b = refl
    or-not false b = refl
