-- A part of a table compared with a word. Assumes nothing.
use Prim.Native.Nat.{ℕ, ◌<◌, ◌≤◌}
use native.Mathlib.Omega.{arith}
use mathlib.Core.Path.{◌≡◌, refl, sym}
use mathlib.Core.Bool.{Bool, true, false, ◌||◌, false≢true}
use mathlib.Core.List.{List}
use lib.ListN.{length}
use lib.Seq.{take_all}
use Rattle.byte_slices.specs.Parts.{part}
use Rattle.byte_slices.proofs.PartLaws.{length-part-min}
use Rattle.policy.specs.Basics.{Name, same}
use Rattle.symbols.proofs.SameLaws.{same_length}

-- a part that is shorter than the word; the whole word
pub shorter : (t : List ℕ) (o n : ℕ) (w : Name) → n < length w → same (part t o n) w ≡ false
shorter t o n w h = same_length (part t o n) w (λ e. omega (arith, length-part-min t o n, e))

pub whole_word : (w : Name) (n : ℕ) → length w ≤ n → part w 0 n ≡ w
unfolding part
whole_word w n h = take_all n w h

-- the second of two words
pub or-second : (a b : Bool) → a ≡ false → (a || (b || false)) ≡ b
or-second true b h = absurd (false≢true (sym h))
or-second false true h = refl
or-second false false h = refl
