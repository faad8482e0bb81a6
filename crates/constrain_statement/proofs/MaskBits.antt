-- A mask that gains the bit of one permission, and then those of others. Assumes nothing.
use mathlib.Core.Path.{◌≡◌, ap, ◌∙◌}
use mathlib.Core.Bool.{Bool, ◌||◌, or-false, or_assoc}
use mathlib.Core.List.{List, [], ◌∷◌}
use Prim.Native.Nat.{ℕ, ◌*◌, ◌%◌, ◌^◌, ◌<◌}
use native.Mathlib.Nat.{mod-lt}
use lib.Dec.{eqb}
use lib.Bits.{bit_or, or_lt}
use lib.Pow.{pow_pos}
use Rattle.bitset.specs.Sets.{bit, from_bits}
use Rattle.bitset.proofs.BitLaws.{bit-or, bit-zero, bit-from_bits, from_bits-ext, from_bits-bit, bits-eq}
use Rattle.bitset.proofs.Tests.{agree2}
use Rattle.policy.specs.Basics.{any, is_among}
use Rattle.policy.specs.Image.{mask_of}

-- `1 << k` is bit k alone
bit-shift : (k j : ℕ) → k < 32 → j < 32 → bit (1 * 2 ^ k % 2 ^ 32) j ≡ eqb j k
unfolding bit
bit-shift = agree2 32 32 (λ k j. bit (1 * 2 ^ k % 2 ^ 32) j) (λ k j. eqb j k) tt

pub with-bit : (m k : ℕ) → m < 2 ^ 32 → k < 32 → bit_or m (1 * 2 ^ k % 2 ^ 32) ≡ from_bits 32 (λ j. bit m j || eqb j k)
with-bit m k h l =
    bits-eq 32 (bit_or m (1 * 2 ^ k % 2 ^ 32)) (λ j. bit m j || eqb j k) (or_lt 32 m (1 * 2 ^ k % 2 ^ 32) h (mod-lt (1 * 2 ^ k) (pow_pos 32)))
    (λ j g. bit-or m (1 * 2 ^ k % 2 ^ 32) j ∙ ap (λ (b : Bool). bit m j || b) (bit-shift k j l g))

-- ---- what numbers add to a mask

abbrev pub gained : ℕ → List ℕ → ℕ
gained m ns = from_bits 32 (λ k. bit m k || is_among k ns)

pub gained-of-none : (ns : List ℕ) → gained 0 ns ≡ mask_of ns
unfolding mask_of
gained-of-none ns = from_bits-ext 32 (λ k. bit 0 k || is_among k ns) (λ k. is_among k ns) (λ k l. ap (λ (b : Bool). b || is_among k ns) (bit-zero k))

pub gained-nothing : (m : ℕ) → m < 2 ^ 32 → gained m [] ≡ m
unfolding is_among any
gained-nothing m h = from_bits-ext 32 (λ k. bit m k || is_among k []) (bit m) (λ k l. or-false (bit m k)) ∙ from_bits-bit 32 m h

pub gained-one : (m k : ℕ) (ns : List ℕ) → gained (from_bits 32 (λ j. bit m j || eqb j k)) ns ≡ gained m (k ∷ ns)
unfolding is_among any
gained-one m k ns =
    let f : ℕ → Bool = λ j. bit m j || eqb j k in
    from_bits-ext 32 (λ j. bit (from_bits 32 f) j || is_among j ns) (λ j. bit m j || is_among j (k ∷ ns))
    (λ j l. ap (λ (b : Bool). b || is_among j ns) (bit-from_bits 32 f j l) ∙ or_assoc (bit m j) (eqb j k) (is_among j ns))
