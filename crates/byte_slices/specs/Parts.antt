-- The bytes of a table at an offset. Both are cut where the table ends, so they are said of every offset and width. Assumes nothing.
use Rattle.std.specs.Prelude.{List, ◌++◌, ℕ, ◌+◌, length, take, drop}

-- the w bytes of t at offset o
unfoldable pub part : List ℕ → ℕ → ℕ → List ℕ
part t o w = take w (drop o t)

-- t with the bytes s at offset o
unfoldable pub put : List ℕ → ℕ → List ℕ → List ℕ
put t o s = take o t ++ (s ++ drop (o + length s) t)
