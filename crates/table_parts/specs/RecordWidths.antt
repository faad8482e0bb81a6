-- Document 01, "The table, contents first", and document 02, W-205: how wide the records of each section are. Assumes nothing.
use Rattle.std.specs.Prelude.{ℕ, [], ◌∷◌, get_or}

-- by the section's number from 0 on; 0 for the names and for the sets of attributes, which have no one width
abbrev pub width_of : ℕ → ℕ
width_of s = get_or (0 ∷ 16 ∷ 64 ∷ 16 ∷ 82 ∷ 10 ∷ 6 ∷ 0 ∷ 4 ∷ 6 ∷ []) s 0
