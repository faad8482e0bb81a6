-- An entry more: its bytes after the entries, and its place in the chains; and the chains of no entries. Assumes nothing.
use Rattle.std.specs.Prelude.{◌≡◌, List, [], ◌∷◌, ◌++◌, ℕ, ◌+◌, ◌<◌, ◌≤◌, length, take}
use Rattle.byte_slices.specs.Parts.{part, put}
use Rattle.bitset.specs.Sets.{emptied}
use Rattle.policy.specs.Encode.{NameEntry, entry_bytes}
use Rattle.symbols.specs.Lookup.{family_number}
use Rattle.symbols.specs.Section.{name_bytes}
use Rattle.name_index.specs.Index.{put_entry, index_bytes}
use Rattle.name_chains.specs.Chains.{Chained}

-- there is room for an entry with a name of len bytes
pub record EntryRoom (total end sort len : ℕ) : Type 0 where
  pub index : index_bytes ≤ total
  pub room : end + 4 + len ≤ name_bytes
  pub sort-known : sort < 8
  pub length-known : len ≤ 64

-- the memory has the entry more, r is the place past it, and where the memory had the chains of some entries, it has those of them and the new one
pub record Entered (before after : List ℕ) (end : ℕ) (e : NameEntry) (r : ℕ) : Type 0 where
  pub is : after ≡ put_entry before end e
  pub long : length after ≡ length before
  pub written : take name_bytes after ≡ put (take name_bytes before) end (entry_bytes e)
  pub past : r ≡ end + length (entry_bytes e)
  pub inside : r ≤ name_bytes
  pub chained : (es : List NameEntry) → Chained before end es → length es < 2048 → e.number < 65536 → family_number e.sort e.number < 36
      → Chained after r (es ++ (e ∷ []))

-- the words of the chains and of the counts become 0, and nothing else is changed. So the memory has the chains of no entries, whatever it held
pub record Cleared (before after : List ℕ) : Type 0 where
  pub is : after ≡ put before 169856 (emptied (part before 169856 18792))
  pub long : length after ≡ length before
  pub front : index_bytes ≤ length before → take name_bytes after ≡ take name_bytes before
  pub chained : index_bytes ≤ length before → Chained after 0 []
