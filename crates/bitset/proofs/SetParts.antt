-- A part of a set, and a set put into another: members by their numbers. Assumes nothing.
use mathlib.Core.Path.{◌≡◌, sym, ap, ◌∙◌, subst}
use mathlib.Core.List.{List}
use mathlib.Core.Bool.{Bool}
use Prim.Native.Nat.{ℕ, ◌+◌, ◌-◌, ◌*◌, ◌/◌, ◌%◌, ◌≤◌, ◌<◌}
use native.Mathlib.Decide.{dec_lt}
use native.Mathlib.Omega.{arith}
use lib.ListN.{length, get_or}
use lib.Seq.{ext_get_or}
use Rattle.bitset.specs.Sets.{member, bit, set_of}
use Rattle.byte_slices.specs.Parts.{part, put}
use Rattle.bitset.proofs.BitLaws.{from_bits-ext}
use Rattle.bitset.proofs.SetLaws.{length-set_of, byte-set_of}
use Rattle.byte_slices.proofs.PartLaws.{get_d_part, get_d-put-after, get_d-put-before, get_d-put-in, length_part, length-put}

pub member-part : (t : List ℕ) (o w n : ℕ) → n < 8 * w → member (part t o w) n ≡ member t (8 * o + n)
unfolding member
member-part t o w n h =
    let q : (8 * o + n) / 8 ≡ o + n / 8 = omega arith in
    let r : (8 * o + n) % 8 ≡ n % 8 = omega arith in
    rw (q, r) (ap (λ (b : ℕ). bit b (n % 8)) (get_d_part t o w (n / 8) (omega arith)))

pub part-set_of : (W o w : ℕ) (f : ℕ → Bool) → o + w ≤ W → part (set_of W f) o w ≡ set_of w (λ n. f (8 * o + n))
part-set_of W o w f h =
    let long : length (part (set_of W f) o w) ≡ w = length_part (set_of W f) o w (omega (arith, length-set_of W f)) in
    ext_get_or 0 (part (set_of W f) o w) (set_of w (λ n. f (8 * o + n))) (long ∙ sym (length-set_of w (λ n. f (8 * o + n))))
    (λ i l. get_d_part (set_of W f) o w i (omega arith) ∙ byte-set_of W f (o + i) (omega arith)
    ∙ from_bits-ext 8 (λ k. f (8 * (o + i) + k)) (λ k. f (8 * o + (8 * i + k))) (λ k q. ap f (regroup i k))
    ∙ sym (byte-set_of w (λ n. f (8 * o + n)) i (omega arith)))
  where
    regroup : (i k : ℕ) → 8 * (o + i) + k ≡ 8 * o + (8 * i + k)
    regroup i k = omega arith

-- a set put into a set: h agrees with g in the part, and with f outside it
pub put-set_of : (W o w : ℕ) (f g h : ℕ → Bool) → o + w ≤ W
    → ((n : ℕ) → n < 8 * o → h n ≡ f n) → ((n : ℕ) → n < 8 * w → h (8 * o + n) ≡ g n) → ((n : ℕ) → 8 * (o + w) ≤ n → h n ≡ f n)
    → put (set_of W f) o (set_of w g) ≡ set_of W h
put-set_of W o w f g h l before within after =
    let lf = length-set_of W f in
    let lg = length-set_of w g in
    let fits : o + length (set_of w g) ≤ length (set_of W f) = omega arith in
    let long = length-put (set_of W f) o (set_of w g) fits in
    ext_get_or 0 (put (set_of W f) o (set_of w g)) (set_of W h) (long ∙ lf ∙ sym (length-set_of W h))
    (λ j m. at fits j (omega arith) (dec_lt j o) (dec_lt j (o + w)))
  where
    regroup : (i k : ℕ) → 8 * o + (8 * i + k) ≡ 8 * (o + i) + k
    regroup i k = omega arith

    at : o + length (set_of w g) ≤ length (set_of W f) → (j : ℕ) → j < W → Dec (j < o) → Dec (j < o + w)
        → get_or (put (set_of W f) o (set_of w g)) j 0 ≡ get_or (set_of W h) j 0
    at fits j m (yes a) d =
        get_d-put-before (set_of W f) o (set_of w g) fits j a ∙ byte-set_of W f j m
        ∙ from_bits-ext 8 (λ k. f (8 * j + k)) (λ k. h (8 * j + k)) (λ k q. sym (before (8 * j + k) (omega arith))) ∙ sym (byte-set_of W h j m)
    at fits j m (no a) (yes b) =
        let e : o + (j - o) ≡ j = omega arith in
        subst (λ (x : ℕ). get_or (put (set_of W f) o (set_of w g)) x 0 ≡ get_or (set_of W h) x 0) e
        (get_d-put-in (set_of W f) o (set_of w g) fits (j - o) (omega (arith, length-set_of w g)) ∙ byte-set_of w g (j - o) (omega arith)
        ∙ from_bits-ext 8 (λ k. g (8 * (j - o) + k)) (λ k. h (8 * (o + (j - o)) + k)) (λ k q. sym (within (8 * (j - o) + k) (omega arith)) ∙ ap h (regroup (j - o) k))
        ∙ sym (byte-set_of W h (o + (j - o)) (omega arith)))
    at fits j m (no a) (no b) =
        get_d-put-after (set_of W f) o (set_of w g) fits j (omega (arith, length-set_of w g)) ∙ byte-set_of W f j m
        ∙ from_bits-ext 8 (λ k. f (8 * j + k)) (λ k. h (8 * j + k)) (λ k q. sym (after (8 * j + k) (omega arith))) ∙ sym (byte-set_of W h j m)
