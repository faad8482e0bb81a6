-- The turns of the writing of a number: no digit, the only digit, the last digit after the others. Assumes nothing.
use mathlib.Core.Path.{◌≡◌, refl, sym, ap, ◌∙◌}
use mathlib.Core.Bool.{Bool, true, false}
use mathlib.Core.List.{List, [], ◌∷◌, ◌++◌}
use Prim.Native.Nat.{ℕ, zero, suc, ◌+◌, ◌-◌, ◌/◌, ◌%◌, ◌<◌, ◌≤◌}
use native.Mathlib.Omega.{arith}
use native.Mathlib.Nat.{add-zero}
use lib.Dec.{ltb}
use lib.ListN.{length, length-append, set}
use lib.Seq.{sets}
use borrow.Author.Tests.{lt-ltb, le-ltb}
use Rattle.byte_slices.proofs.PartLaws.{sets-put, sets-append}
use Rattle.policy.specs.Roll.{digits}
use Rattle.text_writer.specs.WrittenText.{Appends}

-- a number has as many digits as it may have, at most
pub few-digits : (k n : ℕ) → length (digits k n) ≤ k
unfolding digits
few-digits zero n = omega arith
few-digits (suc k) n = by (ltb n 10) (few-digits k (n / 10))
  where
    by : (b : Bool) → length (digits k (n / 10)) ≤ k → length {A = ℕ} (elim b [ true ↦ (48 + n) ∷ [] | false ↦ digits k (n / 10) ++ ((48 + n % 10) ∷ []) ]) ≤ suc k
    by true h = omega arith
    by false h = rw (length-append (digits k (n / 10)) ((48 + n % 10) ∷ [])) (omega arith)

-- the digits, by whether there is only one
unfoldable digits-by : (k n : ℕ) → Bool → List ℕ
digits-by k n true = (48 + n) ∷ []
digits-by k n false = digits k (n / 10) ++ ((48 + n % 10) ∷ [])

digits_of : (k n : ℕ) (b : Bool) → 0 < k → ltb n 10 ≡ b → digits k n ≡ digits-by (k - 1) n b
unfolding digits digits-by
digits_of zero n b h e = absurd (omega arith)
digits_of (suc k) n b h e = by b e ∙ ap (λ (j : ℕ). digits-by j n b) (omega arith)
  where
    by : (b : Bool) → ltb n 10 ≡ b → elim (ltb n 10) [ true ↦ (48 + n) ∷ [] | false ↦ digits k (n / 10) ++ ((48 + n % 10) ∷ []) ] ≡ digits-by k n b
    by true e = rw e
    by false e = rw e

module _ (t : List ℕ) (at : ℕ) where
  by-sets : (s u : List ℕ) (past : ℕ) → at + length s ≤ length t → u ≡ sets t at s → past ≡ at + length s → Appends t at s u past
  by-sets s u past h e f = record { written = e ∙ sets-put t at s h; ends = f }

  as-sets : (s u : List ℕ) (past : ℕ) → at + length s ≤ length t → Appends t at s u past → u ≡ sets t at s
  as-sets s u past h a = a.written ∙ sym (sets-put t at s h)

  -- no digit
  pub no_digit : (k n : ℕ) → at + k ≤ length t → k ≡ 0 → Appends t at (digits k n) t at
  unfolding digits
  no_digit k n h e = rw e (by-sets [] t at (omega arith) refl (sym (add-zero at)))

  -- the only digit
  pub one-digit : (k n : ℕ) → at + k ≤ length t → 0 < k → n < 10 → Appends t at (digits k n) (set t at (48 + n)) (at + 1)
  unfolding digits-by
  one-digit k n h l d = rw (digits_of k n true l (lt-ltb n 10 d)) (by-sets ((48 + n) ∷ []) (set t at (48 + n)) (at + 1) (omega arith) refl refl)

  -- the last digit, after the others
  pub last-digit : (k n past : ℕ) (u : List ℕ) → at + k ≤ length t → 0 < k → 10 ≤ n → Appends t at (digits (k - 1) (n / 10)) u past
      → Appends t at (digits k n) (set u past (48 + n % 10)) (past + 1)
  unfolding digits-by
  last-digit k n past u h l d a =
      let f = few-digits (k - 1) (n / 10) in
      rw (digits_of k n false l (le-ltb n 10 d))
      (by-sets (digits (k - 1) (n / 10) ++ ((48 + n % 10) ∷ [])) (set u past (48 + n % 10)) (past + 1)
      (rw (length-append (digits (k - 1) (n / 10)) ((48 + n % 10) ∷ [])) (omega arith))
      (rw (a.ends, as-sets (digits (k - 1) (n / 10)) u past (omega arith) a) (sets-append t at (digits (k - 1) (n / 10)) ((48 + n % 10) ∷ [])))
      (rw (length-append (digits (k - 1) (n / 10)) ((48 + n % 10) ∷ [])) (omega (arith, a.ends))))
