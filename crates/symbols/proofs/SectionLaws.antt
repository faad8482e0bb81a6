-- Reading a section entry by entry: of a list of bytes, and at a place of a table. Assumes nothing.
use mathlib.Core.Path.{◌≡◌, refl, sym, ap, ◌∙◌}
use mathlib.Core.List.{List, [], ◌∷◌}
use Prim.Native.Nat.{ℕ, zero, suc, min, ◌+◌, ◌-◌, ◌*◌, ◌≤◌, ◌<◌}
use native.Mathlib.Omega.{arith}
use borrow.Author.Tests.{le-leb, lt-leb}
use lib.ListN.{length, get_or, take, drop, length-drop}
use Rattle.byte_slices.specs.Parts.{part}
use Rattle.byte_slices.proofs.PartLaws.{length-part-min}
use Rattle.policy.specs.Encode.{name_entry}
use Rattle.symbols.specs.Section.{done, broken, entry, read_by, section_in, between, section_at}
use Rattle.byte_slices.proofs.PartLaws.{part-head, take_part, drop-part}

-- more fuel than bytes reads no more
fuel : (k m : ℕ) (s : List ℕ) → length s ≤ k → length s ≤ m → read_by k s ≡ read_by m s
unfolding read_by
fuel zero zero [] h g = refl
fuel zero (suc m) [] h g = refl
fuel (suc k) zero [] h g = refl
fuel (suc k) (suc m) [] h g = refl
fuel zero m (a ∷ s) h g = absurd (omega arith)
fuel (suc k) zero (a ∷ s) h g = absurd (omega arith)
fuel (suc k) (suc m) (a ∷ []) h g = refl
fuel (suc k) (suc m) (a ∷ b ∷ []) h g = refl
fuel (suc k) (suc m) (a ∷ b ∷ c ∷ []) h g = refl
fuel (suc k) (suc m) (a ∷ b ∷ c ∷ n ∷ r) h g =
    let e = fuel k m (drop n r) (omega (arith, length-drop n r)) (omega (arith, length-drop n r)) in
    rw e

module _ (a b c n : ℕ) (r : List ℕ) where
  pub section-entry : n ≤ length r → section_in (a ∷ b ∷ c ∷ n ∷ r) ≡ entry (name_entry a (b + 256 * c) (take n r)) (section_in (drop n r))
  unfolding section_in read_by
  section-entry h = rw (le-leb n (length r) h)
      (ap (entry (name_entry a (b + 256 * c) (take n r))) (fuel (suc (suc (suc (length r)))) (length (drop n r)) (drop n r) (omega (arith, length-drop n r)) (omega arith)))

  pub section-cut : length r < n → section_in (a ∷ b ∷ c ∷ n ∷ r) ≡ broken
  unfolding section_in read_by
  section-cut h = rw (lt-leb n (length r) h)

pub section-none : section_in [] ≡ done
unfolding section_in read_by
section-none = refl

pub section-short : (s : List ℕ) → 0 < length s → length s < 4 → section_in s ≡ broken
unfolding section_in read_by
section-short [] h g = absurd (omega arith)
section-short (a ∷ []) h g = refl
section-short (a ∷ b ∷ []) h g = refl
section-short (a ∷ b ∷ c ∷ []) h g = refl
section-short (a ∷ b ∷ c ∷ n ∷ r) h g = absurd (omega arith)

-- ---- at a place of a table, where so many bytes are left of the section

pub section-empty : (s : List ℕ) → length s ≡ 0 → section_in s ≡ done
section-empty [] h = section-none
section-empty (a ∷ s) h = absurd (omega arith)

less-four : (l o : ℕ) → l - (o + 4) ≡ l - o - 4
less-four l o = omega arith

less_both : (l o n : ℕ) → l - (o + 4 + n) ≡ l - o - 4 - n
less_both l o n = omega arith

min-four : (v w left : ℕ) → left ≡ min v w → 4 ≤ left → min (v - 4) (w - 4) ≡ left - 4
min-four v w left l h = omega arith

below-four : (v w left n : ℕ) → left ≡ min v w → n ≤ left - 4 → n ≤ v - 4
below-four v w left n l h = omega arith

module _ (t : List ℕ) (at end left : ℕ) (l : left ≡ min (end - at) (length t - at)) where
  long : length (between t at end) ≡ left
  long = length-part-min t at (end - at) ∙ sym l

  pub at-end : left ≡ 0 → section_at t at end ≡ done
  unfolding section_at
  at-end h = section-empty (between t at end) (omega (arith, long))

  pub at-short : 0 < left → left < 4 → section_at t at end ≡ broken
  unfolding section_at
  at-short h g = section-short (between t at end) (omega (arith, long)) (omega (arith, long))

  module _ (n : ℕ) (e : get_or t (at + 3) 0 ≡ n) (h : 4 ≤ left) where
    head : between t at end ≡ get_or t at 0 ∷ get_or t (at + 1) 0 ∷ get_or t (at + 2) 0 ∷ n ∷ part t (at + 4) (end - at - 4)
    head = part-head t at (end - at) (omega arith) (omega arith) ∙ rw e

    behind : length (part t (at + 4) (end - at - 4)) ≡ left - 4
    behind = length-part-min t (at + 4) (end - at - 4) ∙ rw (less-four (length t) at) (min-four (end - at) (length t - at) left l h)

    pub at_cut : left - 4 < n → section_at t at end ≡ broken
    unfolding section_at
    at_cut g =
        ap section_in head
        ∙ section-cut (get_or t at 0) (get_or t (at + 1) 0) (get_or t (at + 2) 0) n (part t (at + 4) (end - at - 4)) (omega (arith, behind))

    pub at_entry : n ≤ left - 4
        → section_at t at end
        ≡ entry (name_entry (get_or t at 0) (get_or t (at + 1) 0 + 256 * get_or t (at + 2) 0) (between t (at + 4) (at + 4 + n))) (section_at t (at + 4 + n) end)
    unfolding section_at
    at_entry g =
        let x : at + 4 + n - (at + 4) ≡ n = omega arith in
        let y : end - (at + 4 + n) ≡ end - at - 4 - n = less_both end at n in
        ap section_in head
        ∙ section-entry (get_or t at 0) (get_or t (at + 1) 0) (get_or t (at + 2) 0) n (part t (at + 4) (end - at - 4)) (omega (arith, behind))
        ∙ rw (x, y, take_part t (at + 4) (end - at - 4) n (below-four (end - at) (length t - at) left n l g), drop-part t (at + 4) (end - at - 4) n)
