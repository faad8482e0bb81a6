-- One number is put into a set or taken out of it by one store, and the bytes of the set of all numbers below a total. Assumes nothing.
use mathlib.Core.Path.{◌≡◌, sym, ap, ap₂, ◌∙◌, subst}
use mathlib.Core.Bool.{Bool, false, not, ◌&&◌, ◌||◌, or-false, and-true}
use mathlib.Core.List.{List}
use Prim.Native.Nat.{ℕ, ◌+◌, ◌-◌, ◌*◌, ◌/◌, ◌%◌, ◌^◌, ◌≤◌, ◌<◌}
use native.Mathlib.Nat.{mod-lt}
use native.Mathlib.Decide.{ℕ_discrete, dec_lt}
use native.Mathlib.Omega.{arith}
use lib.Dec.{eqb, ltb}
use lib.ListN.{length, get_or, set, length-set}
use lib.Pow.{pow_pos}
use lib.Bits.{bit_and, bit_or, and_lt, or_lt}
use lib.Seq.{ext_get_or, get_or-set_same, get_or-set_other}
use borrow.Author.Tests.{eq-eqb, ne_eqb, lt-ltb, le-ltb}
use Rattle.bitset.specs.Sets.{bit, member, set_of, inserted, removed, bit_byte, mask_of}
use Rattle.bitset.proofs.BitLaws.{bit-and, bit-or, bit-zero, bit-from_bits, from_bits-lt, bits-eq}
use Rattle.bitset.proofs.SetLaws.{length-set_of, member-at, byte-eq, set-eq}
use Rattle.bitset.proofs.Tests.{bit-shift, bit_not, bit-ones, bit-all, shift-pos}

-- ---- tests that say the same

not-lt : (c d : ℕ) → (c < d → ⊥) → d ≤ c
not-lt c d n = omega arith

pub ltb-same : (a b c d : ℕ) → (a < b → c < d) → (c < d → a < b) → ltb a b ≡ ltb c d
ltb-same a b c d to from = pick (dec_lt a b)
  where
    pick : Dec (a < b) → ltb a b ≡ ltb c d
    pick (yes h) = lt-ltb a b h ∙ sym (lt-ltb c d (to h))
    pick (no n) = le-ltb a b (omega arith) ∙ sym (le-ltb c d (not-lt c d (λ h. n (from h))))

pub eqb_same : (a b c d : ℕ) → (a ≡ b → c ≡ d) → (c ≡ d → a ≡ b) → eqb a b ≡ eqb c d
eqb_same a b c d to from = pick (ℕ_discrete a b)
  where
    pick : Dec (a ≡ b) → eqb a b ≡ eqb c d
    pick (yes h) = eq-eqb a b h ∙ sym (eq-eqb c d (to h))
    pick (no n) = ne_eqb a b n ∙ sym (ne_eqb c d (λ h. n (from h)))

-- ---- one byte is stored

-- the rule differs from the set at that byte alone
pub set-byte : (s : List ℕ) (f : ℕ → Bool) (i v : ℕ) → ((j : ℕ) → get_or s j 0 < 256) → i < length s → v < 256
    → ((k : ℕ) → k < 8 → bit v k ≡ f (8 * i + k))
    → ((j k : ℕ) → (j ≡ i → ⊥) → k < 8 → member s (8 * j + k) ≡ f (8 * j + k))
    → set s i v ≡ set_of (length s) f
set-byte s f i v small h l here there =
    ext_get_or 0 (set s i v) (set_of (length s) f) (length-set s i v ∙ sym (length-set_of (length s) f))
    (λ j m. at j (subst (λ (x : ℕ). j < x) (length-set s i v) m) (ℕ_discrete j i))
  where
    at : (j : ℕ) → j < length s → Dec (j ≡ i) → get_or (set s i v) j 0 ≡ get_or (set_of (length s) f) j 0
    at j m (yes e) = rw e (get_or-set_same s i v 0 h ∙ byte-eq (length s) f i v h l here)
    at j m (no ne) =
        get_or-set_other s i j v 0 ne
        ∙ byte-eq (length s) f j (get_or s j 0) m (small j) (λ k q. sym (member-at s j k q) ∙ there j k ne q)

-- `1 << n % 8` is the byte with the bit of number n alone
pub shift-byte : (n : ℕ) → 1 * 2 ^ (n % 8) % 2 ^ 8 ≡ bit_byte n
unfolding bit_byte
shift-byte n =
    bits-eq 8 (1 * 2 ^ (n % 8) % 2 ^ 8) (λ k. eqb (8 * (n / 8) + k) n) (mod-lt (1 * 2 ^ (n % 8)) (pow_pos 8))
    (λ k l. bit-shift (n % 8) k (omega arith) l ∙ eqb_same k (n % 8) (8 * (n / 8) + k) n (λ e. omega arith) (λ e. omega arith))

pub bit_byte-lt : (n : ℕ) → bit_byte n < 256
unfolding bit_byte
bit_byte-lt n = from_bits-lt 8 _

pub bit_byte-pos : (n : ℕ) → 1 ≤ bit_byte n
bit_byte-pos n = subst (λ (x : ℕ). 1 ≤ x) (shift-byte n) (shift-pos (n % 8) (omega arith))

bit-bit_byte : (n k : ℕ) → k < 8 → bit (bit_byte n) k ≡ eqb (8 * (n / 8) + k) n
unfolding bit_byte
bit-bit_byte n k l = bit-from_bits 8 (λ k. eqb (8 * (n / 8) + k) n) k l

-- an operation with the set of one number that leaves every other number as it is
module _ (f : Bool → Bool → Bool) (keeps : (b : Bool) → f b false ≡ b) where
  -- one store does it, where the byte's bits are what the operation says
  one_number : (s : List ℕ) (n v : ℕ) → ((j : ℕ) → get_or s j 0 < 256) → n / 8 < length s → v < 256
      → ((k : ℕ) → k < 8 → bit v k ≡ f (bit (get_or s (n / 8) 0) k) (bit (bit_byte n) k))
      → set s (n / 8) v ≡ set_of (length s) (λ m. f (member s m) (eqb m n))
  one_number s n v small h l bits =
      set-byte s (λ m. f (member s m) (eqb m n)) (n / 8) v small h l
      (λ k q. bits k q ∙ ap₂ f (sym (member-at s (n / 8) k q)) (bit-bit_byte n k q))
      (λ j k ne q. sym (ap (f (member s (8 * j + k))) (ne_eqb (8 * j + k) n (λ e. ne (omega arith))) ∙ keeps (member s (8 * j + k))))

  -- a number past the end changes nothing
  no_number : (s : List ℕ) (n : ℕ) → ((j : ℕ) → get_or s j 0 < 256) → length s ≤ n / 8 → s ≡ set_of (length s) (λ m. f (member s m) (eqb m n))
  no_number s n small h =
      set-eq s (λ m. f (member s m) (eqb m n)) small (λ m l. sym (ap (f (member s m)) (ne_eqb m n (λ e. omega arith)) ∙ keeps (member s m)))

pub insert-byte : (s : List ℕ) (n : ℕ) → ((j : ℕ) → get_or s j 0 < 256) → n / 8 < length s
    → set s (n / 8) (bit_or (get_or s (n / 8) 0) (bit_byte n)) ≡ inserted s n
unfolding inserted
insert-byte s n small h =
    let b = get_or s (n / 8) 0 in
    one_number ◌||◌ or-false s n (bit_or b (bit_byte n)) small h (or_lt 8 b (bit_byte n) (small (n / 8)) (bit_byte-lt n)) (λ k l. bit-or b (bit_byte n) k)

pub insert-past : (s : List ℕ) (n : ℕ) → ((j : ℕ) → get_or s j 0 < 256) → length s ≤ n / 8 → s ≡ inserted s n
unfolding inserted
insert-past = no_number ◌||◌ or-false

pub remove-byte : (s : List ℕ) (n : ℕ) → ((j : ℕ) → get_or s j 0 < 256) → n / 8 < length s
    → set s (n / 8) (bit_and (get_or s (n / 8) 0) (255 - bit_byte n)) ≡ removed s n
unfolding removed
remove-byte s n small h =
    let b = get_or s (n / 8) 0 in
    let p = 255 - bit_byte n in
    one_number (λ x y. x && not y) and-true s n (bit_and b p) small h (and_lt 8 b p (small (n / 8)) (omega arith))
    (λ k l. bit-and b p k ∙ ap (λ (x : Bool). bit b k && x) (bit_not (bit_byte n) k (bit_byte-lt n) l))

pub remove-past : (s : List ℕ) (n : ℕ) → ((j : ℕ) → get_or s j 0 < 256) → length s ≤ n / 8 → s ≡ removed s n
unfolding removed
remove-past = no_number (λ x y. x && not y) and-true

-- ---- the bytes of the set of all numbers below total

pub mask_full : (total i : ℕ) → i < total / 8 → 255 ≡ mask_of total i
unfolding mask_of
mask_full total i h =
    bits-eq 8 255 (λ k. ltb (8 * i + k) total) (omega arith) (λ k l. bit-all k l ∙ sym (lt-ltb (8 * i + k) total (omega arith)))

pub mask-part : (total i : ℕ) → i ≡ total / 8 → bit_byte total - 1 ≡ mask_of total i
unfolding mask_of
mask-part total i e =
    let p : bit_byte total < 256 = bit_byte-lt total in
    bits-eq 8 (bit_byte total - 1) (λ k. ltb (8 * i + k) total) (omega arith)
    (λ k l. ap (λ (b : ℕ). bit (b - 1) k) (sym (shift-byte total)) ∙ bit-ones (total % 8) k (omega arith) l ∙ ltb-same k (total % 8) (8 * i + k) total
    (λ h. omega arith) (λ h. omega arith))

pub mask-none : (total i : ℕ) → total / 8 < i → 0 ≡ mask_of total i
unfolding mask_of
mask-none total i h =
    bits-eq 8 0 (λ k. ltb (8 * i + k) total) (omega arith) (λ k l. bit-zero k ∙ sym (le-ltb (8 * i + k) total (omega arith)))
