-- Two lists of bytes compared: as std does it, and where they are not as long. Assumes nothing.
use mathlib.Core.Path.{◌≡◌, refl, ap}
use mathlib.Core.Bool.{Bool, false, ◌&&◌, and-false}
use mathlib.Core.List.{List, [], ◌∷◌}
use Prim.Native.Nat.{ℕ, suc}
use lib.Dec.{eqb}
use lib.Pointwise.{pointwise}
use lib.ListN.{length}
use Rattle.policy.specs.Basics.{same}

pub same_length : (a b : List ℕ) → (length a ≡ length b → ⊥) → same a b ≡ false
unfolding same
same_length [] [] h = absurd (h refl)
same_length [] (b ∷ bs) h = refl
same_length (a ∷ xs) [] h = refl
same_length (a ∷ xs) (b ∷ bs) h = rw (same_length xs bs (λ e. h (ap suc e))) (and-false (eqb a b))

-- as std compares slices
pub pointwise-same : (a b : List ℕ) → pointwise eqb a b ≡ same a b
unfolding same
pointwise-same [] [] = refl
pointwise-same [] (b ∷ bs) = refl
pointwise-same (a ∷ xs) [] = refl
pointwise-same (a ∷ xs) (b ∷ bs) = ap (λ (q : Bool). eqb a b && q) (pointwise-same xs bs)
