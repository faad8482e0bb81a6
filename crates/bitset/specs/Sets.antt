-- Sets of numbers: as rules that say of every number whether it is in the set, and as bytes.
-- Document 01: "In a set, number n is bit n mod 8 (lowest is 0) of byte n div 8."
-- Every operation on bytes is the set, as many bytes long as its first operand, of a rule: the width is free. Assumes nothing.
use Rattle.std.specs.Prelude.{Bool, true, false, not, ◌&&◌, ◌||◌, List, [], ◌∷◌, ◌≡◌, ℕ, zero, suc, ◌+◌, ◌*◌, ◌/◌, ◌%◌, ◌^◌, ◌≤◌, ◌<◌, max, eqb, ltb, get_or, length}
use Rattle.std.specs.Bool.{xor, beq}

-- bit k of the number b, the lowest being bit 0
unfoldable pub bit : ℕ → ℕ → Bool
bit b k = eqb (b / 2 ^ k % 2) 1

-- whether n is in the set that the bytes s hold; no number past the last byte is
unfoldable pub member : List ℕ → ℕ → Bool
member s n = bit (get_or s (n / 8) 0) (n % 8)

-- a truth value as a number
abbrev pub one : Bool → ℕ
one false = 0
one true = 1

-- the number of w bits whose bit k is f k
unfoldable pub from_bits : ℕ → (ℕ → Bool) → ℕ
from_bits zero f = 0
from_bits (suc w) f = from_bits w (λ k. f (suc k)) * 2 + one (f 0)

module _ {A : Type 0} where
  -- g 0, g 1, .., n of them
  unfoldable pub tabulate : ℕ → (ℕ → A) → List A
  tabulate zero g = []
  tabulate (suc n) g = g 0 ∷ tabulate n (λ i. g (suc i))

-- the set of w bytes that holds those n below 8 * w of which f n is true
unfoldable pub set_of : ℕ → (ℕ → Bool) → List ℕ
unfolding tabulate from_bits
set_of w f = tabulate w (λ i. from_bits 8 (λ k. f (8 * i + k)))

-- how many numbers below n are such that f is true of them
unfoldable pub count_below : ℕ → (ℕ → Bool) → ℕ
count_below zero f = 0
count_below (suc n) f = count_below n f + one (f n)

-- whether f is true of every number below n
unfoldable pub all_below : ℕ → (ℕ → Bool) → Bool
all_below zero f = true
all_below (suc n) f = f n && all_below n f

-- whether f and g are both true of some number below n
unfoldable pub meet : ℕ → (ℕ → Bool) → (ℕ → Bool) → Bool
meet zero f g = false
meet (suc n) f g = f n && g n || meet n f g

-- the set s with n, and without n
unfoldable pub inserted : List ℕ → ℕ → List ℕ
inserted s n = set_of (length s) (λ m. member s m || eqb m n)

unfoldable pub removed : List ℕ → ℕ → List ℕ
removed s n = set_of (length s) (λ m. member s m && not (eqb m n))

-- the numbers in a or in b; those in both; those in one of the two and not in both; those in a and not in b
unfoldable pub union_of : List ℕ → List ℕ → List ℕ
union_of a b = set_of (length a) (λ n. member a n || member b n)

unfoldable pub intersection_of : List ℕ → List ℕ → List ℕ
intersection_of a b = set_of (length a) (λ n. member a n && member b n)

unfoldable pub symmetric_difference_of : List ℕ → List ℕ → List ℕ
symmetric_difference_of a b = set_of (length a) (λ n. xor (member a n) (member b n))

unfoldable pub difference_of : List ℕ → List ℕ → List ℕ
difference_of a b = set_of (length a) (λ n. member a n && not (member b n))

-- the numbers in b, in as many bytes as a has
unfoldable pub copy_of : List ℕ → List ℕ → List ℕ
copy_of a b = set_of (length a) (member b)

-- no number, in as many bytes as s has
unfoldable pub emptied : List ℕ → List ℕ
emptied s = set_of (length s) (λ n. false)

-- "`(all)` is every user, role or type of the whole text; `not` is taken within it": the numbers below total that are not in s
unfoldable pub complement_of : ℕ → List ℕ → List ℕ
complement_of total s = set_of (length s) (λ n. ltb n total && not (member s n))

-- "no bit or index names something undeclared": every number in s is below total
unfoldable pub within : ℕ → List ℕ → Bool
within total s = all_below (8 * length s) (λ n. not (member s n) || ltb n total)

-- a number is in both; from the end of a on no number is in a
unfoldable pub meets : List ℕ → List ℕ → Bool
meets a b = meet (8 * length a) (member a) (member b)

-- the same numbers are in both; from the end of the longer one on no number is in either
unfoldable pub equal : List ℕ → List ℕ → Bool
equal a b = all_below (8 * max (length a) (length b)) (λ n. beq (member a n) (member b n))

-- "each line says how many members its set has"
unfoldable pub count : List ℕ → ℕ
count s = count_below (8 * length s) (member s)

-- byte n div 8 of the set of n alone
unfoldable pub bit_byte : ℕ → ℕ
bit_byte n = from_bits 8 (λ k. eqb (8 * (n / 8) + k) n)

-- byte i of the set of all numbers below total
unfoldable pub mask_of : ℕ → ℕ → ℕ
mask_of total i = from_bits 8 (λ k. ltb (8 * i + k) total)

-- r numbers from n on are not in s; where that is none, n is in s
pub record Gap (s : List ℕ) (n r : ℕ) : Type 0 where
  pub none : (k : ℕ) → n ≤ k → k < n + r → member s k ≡ false
  pub here : r ≡ 0 → member s n ≡ true
