-- A rule at every number below n, by one test that antt computes. Assumes nothing.
use mathlib.Core.Path.{◌≡◌, refl, subst, sym}
use mathlib.Core.Bool.{Bool, true, false, not, ◌&&◌, beq}
use mathlib.Core.Logic.{⊎_elim}
use Prim.Native.Nat.{ℕ, zero, suc, ◌*◌, ◌-◌, ◌%◌, ◌^◌, ◌≤◌, ◌<◌}
use native.Mathlib.Omega.{arith}
use native.Mathlib.Nat.{not-suc-le-zero, le_of_suc-le-suc, eq-or-lt_of_le}
use lib.Dec.{T, eqb, ltb, leb, leb→le}
use Rattle.bitset.specs.Sets.{bit}

and_left : (a b : Bool) → T (a && b) → T a
and_left true b t = tt
and_left false b t = t

and_right : (a b : Bool) → T (a && b) → T b
and_right true b t = t
and_right false b t = absurd t

-- the test f passes at each number below n
abbrev pub up_to : ℕ → (ℕ → Bool) → Bool
up_to zero f = true
up_to (suc n) f = f n && up_to n f

pub up_to-at : (n : ℕ) (f : ℕ → Bool) → T (up_to n f) → (k : ℕ) → k < n → T (f k)
up_to-at zero f t k h = absurd (not-suc-le-zero h)
up_to-at (suc n) f t k h =
    ⊎_elim (λ e. subst (λ (x : ℕ). T (f x)) (sym e) (and_left (f n) (up_to n f) t))
    (λ l. up_to-at n f (and_right (f n) (up_to n f) t) k l)
    (eq-or-lt_of_le (le_of_suc-le-suc h))

pub beq-eq : (a b : Bool) → T (beq a b) → a ≡ b
beq-eq true true t = refl
beq-eq true false t = absurd t
beq-eq false true t = absurd t
beq-eq false false t = refl

-- two functions of two numbers agree at each pair below m and n
pub agree2 : (m n : ℕ) (f g : ℕ → ℕ → Bool) → T (up_to m (λ a. up_to n (λ b. beq (f a b) (g a b)))) → (a b : ℕ) → a < m → b < n → f a b ≡ g a b
agree2 m n f g t a b h l = beq-eq (f a b) (g a b) (up_to-at n (λ b. beq (f a b) (g a b)) (up_to-at m (λ a. up_to n (λ b. beq (f a b) (g a b))) t a h) b l)

-- `1 << k` in a byte is the set of k alone
pub bit-shift : (k j : ℕ) → k < 8 → j < 8 → bit (1 * 2 ^ k % 2 ^ 8) j ≡ eqb j k
unfolding bit
bit-shift = agree2 8 8 (λ k j. bit (1 * 2 ^ k % 2 ^ 8) j) (λ k j. eqb j k) tt

-- `!b`
pub bit_not : (b k : ℕ) → b < 256 → k < 8 → bit (255 - b) k ≡ not (bit b k)
unfolding bit
bit_not = agree2 256 8 (λ b k. bit (255 - b) k) (λ b k. not (bit b k)) tt

-- the m low bits
pub bit-ones : (m k : ℕ) → m < 8 → k < 8 → bit (1 * 2 ^ m % 2 ^ 8 - 1) k ≡ ltb k m
unfolding bit
bit-ones = agree2 8 8 (λ m k. bit (1 * 2 ^ m % 2 ^ 8 - 1) k) (λ m k. ltb k m) tt

pub bit-all : (k : ℕ) → k < 8 → bit 255 k ≡ true
unfolding bit
bit-all k h = agree2 1 8 (λ b k. bit 255 k) (λ b k. true) tt 0 k (omega arith) h

pub shift-pos : (m : ℕ) → m < 8 → 1 ≤ 1 * 2 ^ m % 2 ^ 8
shift-pos m h = leb→le 1 (1 * 2 ^ m % 2 ^ 8) (up_to-at 8 (λ m. leb 1 (1 * 2 ^ m % 2 ^ 8)) tt m h)
