-- Loops that test two sets a byte at a time: what the bits of the byte say that each gathers, and what the tests say. Assumes nothing.
use mathlib.Core.Path.{◌≡◌, refl, sym, ap, ap₂, ◌∙◌, subst}
use mathlib.Core.Bool.{Bool, true, false, not, ◌&&◌, beq, and-false}
use mathlib.Core.List.{List}
use Prim.Native.Nat.{ℕ, ◌+◌, ◌*◌, ◌/◌, ◌%◌, ◌<◌, min, max}
use native.Mathlib.Nat.{lt_of_le_of_lt, zero-add}
use native.Mathlib.Decide.{dec_lt}
use native.Mathlib.Omega.{arith}
use Rattle.std.proofs.Common.{◌↔◌, zero-le}
use Rattle.std.proofs.lemmas.List.FromFn.{length-range_with_len, get_or-range_with_len}
use Rattle.std.specs.Bool.{MatchBool, Decides}
use Rattle.std.specs.List.{range_with_len, AllWithin, HoldsAt}
use lib.Bits.{bit_and, and_le_l}
use lib.ListN.{length, get_or}
use Rattle.bitset.specs.Sets.{bit, member, from_bits, set_of, all_below, meets, equal}
use Rattle.bitset.proofs.AllLaws.{either, all_below-of, all_below-at, meet-apart, not-true}
use Rattle.bitset.proofs.BitLaws.{bit-and, bit-zero, bits-eq}
use Rattle.bitset.proofs.SetLaws.{member-at, member-past, set_of-ext, set_of-member}

-- ---- the tests of a byte

abbrev pub apart_rule : List ℕ → List ℕ → ℕ → Bool
apart_rule a b n = not (member a n && member b n)

abbrev pub same_rule : List ℕ → List ℕ → ℕ → Bool
same_rule a b n = beq (member a n) (member b n)

-- two bytes have those bits in common whose numbers are in both
pub apart-bits : (a b : List ℕ) (i k : ℕ) → k < 8 → apart_rule a b (8 * i + k) ≡ not (bit (bit_and (get_or a i 0) (get_or b i 0)) k)
apart-bits a b i k l = ap not (ap₂ ◌&&◌ (member-at a i k l) (member-at b i k l) ∙ sym (bit-and (get_or a i 0) (get_or b i 0) k))

-- ---- what the tests say

beq-true : (a b : Bool) → beq a b ≡ true → a ≡ b
beq-true true true e = refl
beq-true true false e = sym e
beq-true false true e = e
beq-true false false e = refl

-- the same members, whatever the number
pub equal-members : (a b : List ℕ) → equal a b ≡ true → (n : ℕ) → member a n ≡ member b n
unfolding equal
equal-members a b e n = at (dec_lt n (8 * max (length a) (length b)))
  where
    at : Dec (n < 8 * max (length a) (length b)) → member a n ≡ member b n
    at (yes l) = beq-true (member a n) (member b n) (all_below-at (8 * max (length a) (length b)) (same_rule a b) e n l)
    at (no l) = member-past a n (omega arith) ∙ sym (member-past b n (omega arith))

-- sets of one width are equal where their bytes are the same
pub equal-bytes : (a b : List ℕ) → length a ≡ length b → ((i : ℕ) → get_or a i 0 < 256) → ((i : ℕ) → get_or b i 0 < 256) → equal a b ≡ true → a ≡ b
equal-bytes a b l p q e =
    sym (set_of-member a p) ∙ ap (λ (v : ℕ). set_of v (member a)) l
    ∙ set_of-ext (length b) (member a) (member b) (λ n m. equal-members a b e n) ∙ set_of-member b q

-- sets whose bytes are the same are equal, and no others are
pub equal_all : (a b : List ℕ) → ((i : ℕ) → i < max (length a) (length b) → get_or a i 0 ≡ get_or b i 0) → equal a b ≡ true
unfolding equal member
equal_all a b h =
    all_below-of (8 * max (length a) (length b)) (same_rule a b)
    (λ n l. ap (λ (x : ℕ). beq (bit x (n % 8)) (member b n)) (h (n / 8) (omega arith)) ∙ itself (member b n))
  where
    itself : (x : Bool) → beq x x ≡ true
    itself true = refl
    itself false = refl

-- sets of one width are equal where they have the same bytes, and nowhere else
pub equal-decides : (a b : List ℕ) → length a ≡ length b → ((i : ℕ) → get_or a i 0 < 256) → ((i : ℕ) → get_or b i 0 < 256) → Decides (equal a b) (a ≡ b)
equal-decides a b l p q = (λ e. equal-bytes a b l p q e, λ e. equal_all a b (λ i m. ap (λ (s : List ℕ). get_or s i 0) e))

pub equal_but : (a b : List ℕ) (i : ℕ) → get_or a i 0 < 256 → get_or b i 0 < 256 → (get_or a i 0 ≡ get_or b i 0 → ⊥) → equal a b ≡ false
equal_but a b i p q ne =
    either (equal a b)
    (λ e. absurd (ne (bits-eq 8 (get_or a i 0) (λ k. member b (8 * i + k)) p (λ k l. sym (member-at a i k l) ∙ equal-members a b e (8 * i + k))
    ∙ sym (bits-eq 8 (get_or b i 0) (λ k. member b (8 * i + k)) q (λ k l. sym (member-at b i k l))))))
    (λ e. e)

-- so a test of every place is one of the sets
pub equal-is : (a b : List ℕ) (r : Bool) (n : ℕ) → ((i : ℕ) → get_or a i 0 < 256) → ((i : ℕ) → get_or b i 0 < 256) → n ≡ max (length a) (length b)
    → MatchBool r (AllWithin (λ i. get_or a i 0 ≡ get_or b i 0) (range_with_len 0 n) 0 (length (range_with_len 0 n)))
    ((k : ℕ) × (k < length (range_with_len 0 n)) × HoldsAt (λ i. get_or a i 0 ≡ get_or b i 0 → ⊥) (range_with_len 0 n) k)
    → r ≡ equal a b
equal-is a b true n p q e h =
    sym (equal_all a b (λ i l.
    let m : i < n = omega arith in
    let at : get_or (range_with_len 0 n) i 0 ≡ i = get_or-range_with_len 0 n i 0 m ∙ zero-add i in
    subst (λ (x : ℕ). get_or a x 0 ≡ get_or b x 0) at (h i 0 zero-le (omega (arith, length-range_with_len 0 n)))))
equal-is a b false n p q e h =
    let k = get_or (range_with_len 0 n) h.0 0 in
    sym (equal_but a b k (p k) (q k) (h.2 0))

-- two sets meet where not every number is apart
pub meets-apart : (a b : List ℕ) → meets a b ≡ not (all_below (8 * length a) (apart_rule a b))
unfolding meets
meets-apart a b = meet-apart (8 * length a) (member a) (member b)

-- they do not meet where no two bytes have a bit in common, and nowhere else
none-meets : (a b : List ℕ) → ((i : ℕ) → i < min (length a) (length b) → bit_and (get_or a i 0) (get_or b i 0) ≡ 0) → meets a b ≡ false
unfolding member
none-meets a b h = meets-apart a b ∙ ap not (all_below-of (8 * length a) (apart_rule a b) (λ n l. at n l (dec_lt n (8 * length b))))
  where
    at : (n : ℕ) → n < 8 * length a → Dec (n < 8 * length b) → apart_rule a b n ≡ true
    at n l (yes m) =
        ap not (sym (bit-and (get_or a (n / 8) 0) (get_or b (n / 8) 0) (n % 8)) ∙ ap (λ (x : ℕ). bit x (n % 8)) (h (n / 8) (omega arith)) ∙ bit-zero (n % 8))
    at n l (no m) = ap (λ (x : Bool). not (member a n && x)) (member-past b n (omega arith)) ∙ ap not (and-false (member a n))

meets-none : (a b : List ℕ) → ((i : ℕ) → get_or a i 0 < 256) → meets a b ≡ false → (i : ℕ) → i < min (length a) (length b)
    → bit_and (get_or a i 0) (get_or b i 0) ≡ 0
unfolding from_bits
meets-none a b small e i h =
    let x = bit_and (get_or a i 0) (get_or b i 0) in
    let apart : all_below (8 * length a) (apart_rule a b) ≡ true = not-not (all_below (8 * length a) (apart_rule a b)) (sym (meets-apart a b) ∙ e) in
    bits-eq 8 x (λ k. false) (lt_of_le_of_lt (and_le_l (get_or a i 0) (get_or b i 0)) (small i))
    (λ k l. not-true (bit x k) (sym (apart-bits a b i k l) ∙ all_below-at (8 * length a) (apart_rule a b) apart (8 * i + k) (omega arith)))
  where
    not-not : (x : Bool) → not x ≡ false → x ≡ true
    not-not true e = refl
    not-not false e = sym e

-- so a test of the bytes is one of the sets
pub meets-is : (a b : List ℕ) (r : Bool) → ((i : ℕ) → get_or a i 0 < 256)
    → (r ≡ false) ↔ ((i : ℕ) → i < min (length a) (length b) → bit_and (get_or a i 0) (get_or b i 0) ≡ 0) → r ≡ meets a b
meets-is a b r small h = same r (meets a b) (λ e. none-meets a b (h.0 e)) (λ e. h.1 (meets-none a b small e))
  where
    same : (x y : Bool) → (x ≡ false → y ≡ false) → (y ≡ false → x ≡ false) → x ≡ y
    same true true p q = refl
    same true false p q = q refl
    same false y p q = sym (p refl)
