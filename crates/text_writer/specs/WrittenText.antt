-- Bytes written into memory from a place on. Assumes nothing.
use Rattle.std.specs.Prelude.{◌≡◌, List, ℕ, ◌+◌, length}
use Rattle.byte_slices.specs.Parts.{put}

-- the bytes are from the place at on, nothing else is changed, and past is the place after them
pub record Appends (before : List ℕ) (at : ℕ) (bytes after : List ℕ) (past : ℕ) : Type 0 where
  pub written : after ≡ put before at bytes
  pub ends : past ≡ at + length bytes
