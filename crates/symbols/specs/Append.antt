-- An entry written at the end of a section. Assumes nothing.
use Rattle.std.specs.Prelude.{◌≡◌, List, ℕ, ◌+◌, ◌<◌, ◌≤◌, length}
use Rattle.byte_slices.specs.Parts.{put}
use Rattle.policy.specs.Encode.{NameEntry, entry_bytes}

-- there is room at a place for an entry with a name of len bytes, and its sort and its length fit a byte each
pub record Room (total end sort len : ℕ) : Type 0 where
  pub room : end + 4 + len ≤ total
  pub sort-byte : sort < 256
  pub length-byte : len < 256

-- the entry's bytes are at the place, nothing else is changed, and r is the place past them, which lies in the memory
pub record Appended (before after : List ℕ) (end : ℕ) (e : NameEntry) (r : ℕ) : Type 0 where
  pub written : after ≡ put before end (entry_bytes e)
  pub past : r ≡ end + length (entry_bytes e)
  pub inside : r ≤ length before
