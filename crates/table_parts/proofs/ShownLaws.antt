-- A part of no bytes is empty, wherever it points. Assumes nothing.
use Prim.Native.Nat.{ℕ}
use mathlib.Core.Path.{◌≡◌, refl}
use mathlib.Core.List.{List, []}
use Rattle.byte_slices.specs.Parts.{part}

pub no_bytes : (t : List ℕ) (o : ℕ) → part t o 0 ≡ []
unfolding part
no_bytes t o = refl
