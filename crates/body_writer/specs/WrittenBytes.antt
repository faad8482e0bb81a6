-- Bytes written into a table from a place on. The table's memory is lent, so what is written is said for the case that it has room. Assumes nothing.
use Rattle.std.specs.Prelude.{◌≡◌, List, ℕ, ◌+◌, ◌≤◌, length, take}
use Rattle.byte_slices.specs.Parts.{put}

-- where there is room for the bytes they are from the place on, nothing else is changed, and r is the place after them:
-- "the bodies follow .. in order, without gaps"
pub record Appended (bytes before : List ℕ) (at : ℕ) (after : List ℕ) (r : ℕ) : Type 0 where
  pub written : at + length bytes ≤ length before → after ≡ put before at bytes
  pub past : at + length bytes ≤ length before → r ≡ at + length bytes

-- the first len bytes of src are from the place on, and nothing else is changed
pub record Copies (src : List ℕ) (len : ℕ) (before : List ℕ) (at : ℕ) (after : List ℕ) : Type 0 where
  pub bytes : len ≤ length src → at + len ≤ length before → after ≡ put before at (take len src)
