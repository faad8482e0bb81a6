-- Numbers in bytes, lowest first, of any width: writing and reading undo each other. By induction on the width. Assumes nothing.
use Prim.Native.Nat.{ℕ, zero, suc, ◌+◌, ◌*◌, ◌/◌, ◌%◌, ◌^◌, ◌<◌, ◌≤◌}
use native.Mathlib.Omega.{arith}
use mathlib.Core.Path.{◌≡◌, refl, sym, ap, ap₂, ◌∙◌}
use mathlib.Core.List.{List, [], ◌∷◌}
use lib.ListN.{length, take}
use lib.Seq.{length-take-le}
use Rattle.policy.specs.Basics.{le, unle}
use Rattle.table_laws.specs.SoundTable.{Bytes}
use Rattle.table_laws.proofs.ListLaws.{all_take}

pub le-length : (w n : ℕ) → length (le w n) ≡ w
unfolding le
le-length zero n = refl
le-length (suc w) n = ap suc (le-length w (n / 256))

pub le_bytes : (w n : ℕ) → Bytes (le w n)
unfolding le
le_bytes zero n = tt
le_bytes (suc w) n = (omega arith, le_bytes w (n / 256))

-- a number that fits is read back
pub unle-le : (w n : ℕ) → n < 256 ^ w → unle (le w n) ≡ n
unfolding le unle
unle-le zero n h = omega arith
unle-le (suc w) n h = rw (unle-le w (n / 256) (omega arith)) (omega arith)

-- the lowest byte of a number, and what it leaves
low : (b u : ℕ) → b < 256 → (b + 256 * u) % 256 ≡ b
low b u h = omega arith

high : (b u : ℕ) → b < 256 → (b + 256 * u) / 256 ≡ u
high b u h = omega arith

-- bytes are written back
pub le-unle : (t : List ℕ) → Bytes t → le (length t) (unle t) ≡ t
unfolding le unle
le-unle [] h = refl
le-unle (b ∷ bs) h = ap₂ {C = List ℕ} (λ x r. x ∷ r) (low b (unle bs) h.0) (ap (le (length bs)) (high b (unle bs) h.0) ∙ le-unle bs h.1)

pub le-two : (a b : ℕ) → a < 256 → b < 256 → le 2 (a + 256 * b) ≡ a ∷ b ∷ []
unfolding le
le-two a b h k = let small : b % 256 ≡ b = omega arith in rw (low a b h, high a b h, small)

pub le-unle-take : (w : ℕ) (t : List ℕ) → Bytes t → w ≤ length t → le w (unle (take w t)) ≡ take w t
le-unle-take w t h l =
    ap (λ (n : ℕ). le n (unle (take w t))) (sym (length-take-le w t l)) ∙ le-unle (take w t) (all_take (λ b. b < 256) w t h)
