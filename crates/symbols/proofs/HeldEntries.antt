-- A table that holds the bytes of some entries: `next_entry`, `find` and `name_of` read those entries, and the place of a name is where its
-- bytes stand. Assumes nothing.
use mathlib.Core.Path.{◌≡◌, ap, ◌∙◌}
use mathlib.Core.List.{List, ◌++◌, append_assoc}
use mathlib.Core.Option.{some}
use Prim.Native.Nat.{ℕ, ◌+◌}
use lib.ListN.{length, take}
use lib.Seq.{drop-append-add, take-append_seam}
use Rattle.byte_slices.specs.Parts.{part}
use Rattle.bitset.specs.Relations.{joined}
use Rattle.policy.specs.Basics.{each, le}
use Rattle.policy.specs.Encode.{NameEntry, entry_bytes}
use Rattle.symbols.specs.Section.{between, section_in, section_at, entries_at, exact_entries, exact_entries_at}
use Rattle.symbols.proofs.ReadBack.{Small, read_back, exact-some}

module _ (t : List ℕ) (start end : ℕ) (es : List NameEntry) (small : Small es) (h : between t start end ≡ joined (each entry_bytes es)) where
  pub exact-written : exact_entries_at t start end ≡ some es
  unfolding section_at
  exact-written = ap (λ (p : List ℕ). exact_entries (section_in p)) h ∙ read_back es small

  pub entries-written : entries_at t start end ≡ es
  entries-written = (exact-some (section_at t start end) es exact-written).1

-- ---- the bytes of a name

first : (before : List ℕ) (e : NameEntry) (rest behind : List ℕ)
    → part (before ++ ((entry_bytes e ++ rest) ++ behind)) (length before + 4) (length e.name) ≡ e.name
unfolding le part
first before e rest behind =
    ap (take (length e.name)) (drop-append-add before ((entry_bytes e ++ rest) ++ behind) 4 ∙ append_assoc e.name rest behind)
    ∙ take-append_seam e.name (rest ++ behind)
