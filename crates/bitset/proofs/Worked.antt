-- Worked examples of document 01 that are about sets, each by computation. Assumes nothing.
use mathlib.Core.Path.{◌≡◌, refl}
use mathlib.Core.List.{List, ◌∷◌, [], ◌++◌}
use Prim.Native.Nat.{ℕ}
use lib.Dec.{eqb}
use lib.ListN.{get_or, replicate}
use Rattle.bitset.specs.Sets.{bit, member, set_of, complement_of, symmetric_difference_of}

-- P12: "role number 64 is bit 0 of byte 8"
pub p12 : set_of 16 (λ n. eqb n 64) ≡ replicate 8 0 ++ (1 ∷ replicate 7 0)
unfolding set_of
p12 = refl

pub p12-read : (s : List ℕ) → member s 64 ≡ bit (get_or s 8 0) 0
unfolding member
p12-read s = refl

-- P8: "roles a b c: `(not (a b))` is c"
pub p8 : complement_of 3 (3 ∷ 0 ∷ []) ≡ 4 ∷ 0 ∷ []
unfolding complement_of set_of member bit
p8 = refl

-- P9: "`(xor (a b) (b c))` is a and c"
pub p9 : symmetric_difference_of (3 ∷ 0 ∷ []) (6 ∷ 0 ∷ []) ≡ 5 ∷ 0 ∷ []
unfolding symmetric_difference_of set_of member bit mathlib.Core.Bool.xor
p9 = refl
