-- Each operator of two sets on one byte: the bits of what `apply` answers are those that the operator says. Assumes nothing.
use mathlib.Core.Path.{◌≡◌, refl, sym, ap, ap₂, ◌∙◌}
use mathlib.Core.Bool.{Bool, ◌&&◌}
use mathlib.Core.List.{List}
use Prim.Native.Nat.{ℕ, ◌+◌, ◌-◌, ◌<◌}
use native.Mathlib.Omega.{arith}
use lib.Bits.{bit_and, bit_or, bit_xor, and_lt, or_lt, xor_lt}
use lib.ListN.{length, get_or, set}
use Rattle.bitset.specs.Sets.{bit, member, from_bits}
use Rattle.set_operators.specs.Operators.{truth, combined, combined_byte}
use Rattle.set_operators.specs.declared.SetOp.{SetOp}
use Rattle.set_operators.specs.declared.SetOp.TheVariants.{Union, Intersection, ExclusiveOr, Difference, Second}
use Rattle.bitset.proofs.BitLaws.{bit-and, bit-or, bit-xor, bits-eq, bit-from_bits, from_bits-lt}
use Rattle.bitset.proofs.SetLaws.{length-set_of, member-at}
use Rattle.bitset.proofs.Tests.{bit_not}
use Rattle.bitset.proofs.LoopSteps.{Turned}
use Rattle.bitset.proofs.LoopLaws.{byte-turn, turned_bit}

module _ (a b : ℕ) (small-a : a < 256) (small_b : b < 256) where
  by_bits : (op : SetOp) (v : ℕ) → v < 256 → ((k : ℕ) → k < 8 → bit v k ≡ truth op (bit a k) (bit b k)) → v ≡ combined_byte op a b
  unfolding combined_byte
  by_bits op v l h = bits-eq 8 v (λ k. truth op (bit a k) (bit b k)) l h

  pub union-byte : bit_or a b ≡ combined_byte Union a b
  union-byte = by_bits Union (bit_or a b) (or_lt 8 a b small-a small_b) (λ k l. bit-or a b k)

  pub intersection-byte : bit_and a b ≡ combined_byte Intersection a b
  intersection-byte = by_bits Intersection (bit_and a b) (and_lt 8 a b small-a small_b) (λ k l. bit-and a b k)

  pub exclusive-or-byte : bit_xor a b ≡ combined_byte ExclusiveOr a b
  exclusive-or-byte = by_bits ExclusiveOr (bit_xor a b) (xor_lt 8 a b small-a small_b) (λ k l. bit-xor a b k)

  pub difference-byte : bit_and a (255 - b) ≡ combined_byte Difference a b
  difference-byte =
      by_bits Difference (bit_and a (255 - b)) (and_lt 8 a (255 - b) small-a (omega arith))
      (λ k l. bit-and a (255 - b) k ∙ ap (λ (x : Bool). bit a k && x) (bit_not b k small_b l))

  pub second-byte : b ≡ combined_byte Second a b
  second-byte = by_bits Second b small_b (λ k l. refl)

pub length-combined : (op : SetOp) (a b : List ℕ) → length (combined op a b) ≡ length a
unfolding combined
length-combined op a b = length-set_of (length a) _

-- a turn of the loop over the bytes stores the byte that the operator says
pub combine-turn : (op : SetOp) (a b : List ℕ) {e : List ℕ} {i : ℕ} → Turned (combined op a b) a e i → i < length e
    → Turned (combined op a b) a (set e i (combined_byte op (get_or e i 0) (get_or b i 0))) (i + 1)
unfolding combined combined_byte
combine-turn op a b {e} {i} s h =
    let f : ℕ → Bool = λ n. truth op (member a n) (member b n) in
    let g : ℕ → Bool = λ k. truth op (bit (get_or e i 0) k) (bit (get_or b i 0) k) in
    byte-turn f (from_bits 8 g) s h (from_bits-lt 8 g)
    (λ k l. bit-from_bits 8 g k l ∙ ap₂ (truth op) (turned_bit f s k l) (sym (member-at b i k l)))
