-- Words of bytes read as numbers, the lowest byte first: no two words of a length make the same numbers. Assumes nothing.
use mathlib.Core.Path.{◌≡◌, refl}
use mathlib.Core.Bool.{true}
use mathlib.Core.List.{[], ◌∷◌}
use Prim.Native.Nat.{ℕ, zero, suc, ◌<◌}
use native.Mathlib.Omega.{arith}
use borrow.Author.Tests.{eq-eqb}
use lib.ListN.{length, get_or, take, drop}
use Rattle.policy.specs.Basics.{Name, same, unle}

-- the letters are bytes
abbrev pub Small : Name → Type 0
Small w = (i : ℕ) → get_or w i 0 < 256

-- two words of a length are the same if the numbers of their first n letters are, and those of the letters after them
pub alike : (n : ℕ) (v w : Name) → Small v → Small w → length v ≡ length w → unle (take n v) ≡ unle (take n w) → unle (drop n v) ≡ unle (drop n w)
    → same v w ≡ true
unfolding unle same
alike n [] [] s t l a b = refl
alike n [] (y ∷ w) s t l a b = absurd (omega arith)
alike n (x ∷ v) [] s t l a b = absurd (omega arith)
alike zero (x ∷ v) (y ∷ w) s t l a b =
    rw (eq-eqb x y (omega (arith, s 0, t 0)))
    (alike zero v w (λ i. s (suc i)) (λ i. t (suc i)) (omega arith) refl (omega (arith, s 0, t 0)))
alike (suc n) (x ∷ v) (y ∷ w) s t l a b =
    rw (eq-eqb x y (omega (arith, s 0, t 0)))
    (alike n v w (λ i. s (suc i)) (λ i. t (suc i)) (omega arith) (omega (arith, s 0, t 0)) b)
