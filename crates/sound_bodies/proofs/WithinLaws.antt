-- That a set has no number at or above a total is asked of the bytes that the total does not fill alone. Assumes nothing.
use Prim.Native.Nat.{ℕ, ◌+◌, ◌-◌, ◌*◌, ◌/◌, ◌%◌, ◌≤◌, ◌<◌}
use native.Mathlib.Omega.{arith}
use mathlib.Core.Path.{◌≡◌, refl, sym, ap, ◌∙◌}
use mathlib.Core.Bool.{Bool, true, false, false≢true}
use mathlib.Core.List.{List}
use native.Mathlib.Decide.{dec_lt}
use Rattle.bitset.specs.Sets.{member, within}
use Rattle.byte_slices.specs.Parts.{part}
use Rattle.bitset.proofs.SetLaws.{member-past}
use Rattle.byte_slices.proofs.PartLaws.{length-part-le}
use Rattle.bitset.proofs.SetParts.{member-part}
use Rattle.bitset.proofs.AllLaws.{within-below, within_of}

module _ (t : List ℕ) (o w total : ℕ) where
  past : (o w n : ℕ) → 8 * w ≤ n → member (part t o w) n ≡ false
  past o w n h = member-past (part t o w) n (omega (arith, length-part-le t o w))

  -- where the total fills all bytes, no number reaches it
  pub within-filled : w ≤ total / 8 → true ≡ within total (part t o w)
  within-filled h = sym (within_of total (part t o w) (λ n l. past o w n (omega arith)))

  -- a number of the bytes that are left is one of the whole set
  moved : total / 8 ≤ w → (n : ℕ) → member (part t (o + total / 8) (w - total / 8)) n ≡ member (part t o w) (8 * (total / 8) + n)
  moved h n = at (dec_lt n (8 * (w - total / 8)))
    where
      at : Dec (n < 8 * (w - total / 8)) → member (part t (o + total / 8) (w - total / 8)) n ≡ member (part t o w) (8 * (total / 8) + n)
      at (yes l) =
          let e : 8 * (o + total / 8) + n ≡ 8 * o + (8 * (total / 8) + n) = omega arith in
          member-part t (o + total / 8) (w - total / 8) n l ∙ ap (member t) e ∙ sym (member-part t o w (8 * (total / 8) + n) (omega arith))
      at (no l) = past (o + total / 8) (w - total / 8) n (omega arith) ∙ sym (past o w (8 * (total / 8) + n) (omega arith))

  pub within-rest : total / 8 ≤ w → within (total % 8) (part t (o + total / 8) (w - total / 8)) ≡ within total (part t o w)
  within-rest h = by (within total (part t o w)) (within (total % 8) (part t (o + total / 8) (w - total / 8))) refl refl
    where
      by : (p q : Bool) → within total (part t o w) ≡ p → within (total % 8) (part t (o + total / 8) (w - total / 8)) ≡ q → q ≡ p
      by true true e f = refl
      by false false e f = refl
      by true false e f =
          absurd (false≢true (sym f ∙ within_of (total % 8) (part t (o + total / 8) (w - total / 8))
          (λ n l. moved h n ∙ within-below total (part t o w) e (8 * (total / 8) + n) (omega arith))))
      by false true e f =
          absurd (false≢true (sym e ∙ within_of total (part t o w) (λ n l.
          let s : n ≡ 8 * (total / 8) + (n - 8 * (total / 8)) = omega arith in
          ap (member (part t o w)) s ∙ sym (moved h (n - 8 * (total / 8)))
          ∙ within-below (total % 8) (part t (o + total / 8) (w - total / 8)) f (n - 8 * (total / 8)) (omega arith))))
