-- How many tokens a row takes up. Every token takes up a byte of the text at least, and no statement has more units of code than tokens, so this
-- is what the room for the code is counted in. Assumes nothing.
use Rattle.std.specs.Prelude.{ℕ, ◌+◌, List, [], ◌∷◌}
use Rattle.lexer.specs.Forms.{Forms, closed, ended, word, part, Frames}

-- the words and parentheses of a row, the one that closes it among them
unfoldable pub weight : Forms → ℕ
weight closed = 1
weight ended = 0
weight (word at w r) = weight r + 1
weight (part at i r) = weight i + weight r + 1

-- those of the rows around
unfoldable pub weight_around : List Forms → ℕ
weight_around [] = 0
weight_around (f ∷ fs) = weight f + weight_around fs

-- those of the row at hand and the rows around it
abbrev pub weight_of : Frames → ℕ
weight_of r = weight r.here + weight_around r.around
