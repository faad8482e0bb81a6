-- One definition for every operation on two sets: a number is in the result by whether it is in each of the two. Assumes nothing.
use Rattle.std.specs.Prelude.{Bool, not, ◌&&◌, ◌||◌, List, ℕ, length}
use Rattle.std.specs.Bool.{xor}
use Rattle.bitset.specs.Sets.{bit, member, from_bits, set_of}
use Rattle.set_operators.specs.declared.SetOp.{SetOp}
use Rattle.set_operators.specs.declared.SetOp.TheVariants.{Union, Intersection, ExclusiveOr, Difference, Second}

-- whether a number is in the result, from whether it is in the first and in the second set
abbrev pub truth : SetOp → Bool → Bool → Bool
truth Union a b = a || b
truth Intersection a b = a && b
truth ExclusiveOr a b = xor a b
truth Difference a b = a && not b
truth Second a b = b

unfoldable pub combined : SetOp → List ℕ → List ℕ → List ℕ
combined op a b = set_of (length a) (λ n. truth op (member a n) (member b n))

-- the same on one byte
unfoldable pub combined_byte : SetOp → ℕ → ℕ → ℕ
combined_byte op a b = from_bits 8 (λ k. truth op (bit a k) (bit b k))
