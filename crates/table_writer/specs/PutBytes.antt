-- Bytes written into lent memory from a place on. Assumes nothing.
use Rattle.std.specs.Prelude.{◌≡◌, List, ◌++◌, ℕ, ◌+◌, ◌-◌, ◌≤◌, length}
use Rattle.byte_slices.specs.Parts.{put}
use Rattle.policy.specs.Basics.{le}

-- where there is room for the bytes they are from the place on, and nothing else is changed
pub record Puts (bytes before : List ℕ) (at : ℕ) (after : List ℕ) : Type 0 where
  pub written : at + length bytes ≤ length before → after ≡ put before at bytes

-- "pairs of offset and length, 4 bytes each", by the places where a body starts and ends
abbrev pub pair : ℕ → ℕ → List ℕ
pair start end = le 4 start ++ le 4 (end - start)
