-- The bytes of a text that is written in quotes, so that definitions and examples read as document 01 does. Assumes nothing.
use mathlib.Core.List as L
use Rattle.std.specs.Prelude.{List, ℕ}
use Prim.Native.Char.{code}
use Prim.Native.String.{String, [], ◌∷◌}

-- the bytes of an ASCII text
abbrev pub bytes : String → List ℕ
bytes [] = L.[]
bytes (c ∷ s) = L.◌∷◌ (code c) (bytes s)
