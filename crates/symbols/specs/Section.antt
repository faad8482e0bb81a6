-- Document 01, "The table, contents first": the entries of body 1, read from its bytes. Every list of bytes is read: to its end, or to
-- the first place where no entry stands. Assumes nothing.
use Rattle.std.specs.Prelude.{◌≡◌, Bool, true, false, cond, List, [], ◌∷◌, ℕ, zero, suc, ◌+◌, ◌-◌, ◌*◌, ◌<◌, ◌≤◌, leb, length, take, drop}
use Rattle.std.proofs.Math.Option.{Option}
use Rattle.byte_slices.specs.Parts.{part}
use Rattle.policy.specs.Basics.{given}
use Rattle.policy.specs.Encode.{NameEntry, name_entry}
use Rattle.symbols.specs.declared.Entry.{Entry}

-- room for all names that the maxima allow: 2,016 entries, each of at most 4 bytes and a name of 64
abbrev pub name_bytes : ℕ
name_bytes = 137088

-- bytes as entries: they end after an entry, or in something that is no entry
pub data Section : Type 0 where
  done broken : Section
  entry : NameEntry → Section → Section

-- "sort in 1 byte .., number in 2 bytes .., length in 1, bytes"; k is at least the number of entries
unfoldable pub read_by : ℕ → List ℕ → Section
read_by zero [] = done
read_by zero (s ∷ t) = broken
read_by (suc k) [] = done
read_by (suc k) (s ∷ []) = broken
read_by (suc k) (s ∷ a ∷ []) = broken
read_by (suc k) (s ∷ a ∷ b ∷ []) = broken
read_by (suc k) (s ∷ a ∷ b ∷ n ∷ t) =
    cond (leb n (length t)) (entry (name_entry s (a + 256 * b) (take n t)) (read_by k (drop n t))) broken

unfoldable pub section_in : List ℕ → Section
section_in t = read_by (length t) t

-- the entries before the end or the fault
unfoldable pub entries_read : Section → List NameEntry
entries_read done = []
entries_read broken = []
entries_read (entry e s) = e ∷ entries_read s

-- it is used up exactly
unfoldable pub is_exact : Section → Bool
is_exact done = true
is_exact broken = false
is_exact (entry e s) = is_exact s

-- the entries of such a section
abbrev pub exact_entries : Section → Option (List NameEntry)
exact_entries s = given (is_exact s) (entries_read s)

-- the bytes of t from a place to before another
abbrev pub between : List ℕ → ℕ → ℕ → List ℕ
between t start end = part t start (end - start)

unfoldable pub section_at : List ℕ → ℕ → ℕ → Section
section_at t start end = section_in (between t start end)

abbrev pub entries_at : List ℕ → ℕ → ℕ → List NameEntry
entries_at t start end = entries_read (section_at t start end)

abbrev pub exact_entries_at : List ℕ → ℕ → ℕ → Option (List NameEntry)
exact_entries_at t start end = exact_entries (section_at t start end)

-- the section from a place on, by what is there
abbrev pub section_by : List ℕ → ℕ → ℕ → Entry → Section
section_by t at end (Entry.Named s n past) = entry (name_entry s n (between t (at + 4) past)) (section_at t past end)
section_by t at end Entry.Done = done
section_by t at end Entry.Broken = broken

-- where an entry lies, and what its numbers can be
pub record Within (t : List ℕ) (at end s n past : ℕ) : Type 0 where
  pub ahead : at + 4 ≤ past
  pub near : past < at + 260
  pub inside : past ≤ end
  pub stored : past ≤ length t
  pub sort-byte : s < 256
  pub number-two-bytes : n < 65536

abbrev pub WithinBy : List ℕ → ℕ → ℕ → Entry → Type 0
WithinBy t at end (Entry.Named s n past) = Within t at end s n past
WithinBy t at end Entry.Done = Unit {0}
WithinBy t at end Entry.Broken = Unit {0}

-- what is at a place of the section of t that ends at end
pub record EntryIs (t : List ℕ) (at end : ℕ) (r : Entry) : Type 0 where
  pub reads : section_at t at end ≡ section_by t at end r
  pub within : WithinBy t at end r
