-- Entries written at the end of the symbols. Assumes nothing.
use Rattle.std.specs.Prelude.{ℕ, ◌+◌, ◌≤◌, ◌<◌, ◌≡◌, List, [], ◌∷◌, ◌++◌, length, take, Option, MatchOption}
use Rattle.byte_slices.specs.Parts.{put}
use Rattle.bitset.specs.Relations.{joined}
use Rattle.policy.specs.Basics.{Name, each, All}
use Rattle.policy.specs.Encode.{NameEntry, entry_bytes}
use Rattle.symbols.specs.Lookup.{family_number}
use Rattle.symbols.specs.Section.{name_bytes}
use Rattle.name_chains.specs.Chains.{Chained}
use Rattle.scopes.specs.Scope.{InScope}
use Rattle.name_index.specs.Index.{index_bytes}

-- there is room in the index for the entries es after the entries xs, and a chain for each of them: their numbers fit 2 bytes, and their families are
-- among the 36
unfoldable pub Indexable : List NameEntry → List NameEntry → Type 0
Indexable xs [] = Unit {0}
Indexable xs (e ∷ es) = (length xs < 2048) × (e.number < 65536) × (family_number e.sort e.number < 36) × Indexable (xs ++ (e ∷ [])) es

-- the bytes of some entries are at the end, nothing else is changed before the index, and past is the place after them. The chains have them, if they
-- had the entries before them and there is room; and the scope is kept
pub record Entered (before after : List ℕ) (end : ℕ) (es : List NameEntry) (past : ℕ) : Type 0 where
  pub room : index_bytes ≤ length before
  pub written : take name_bytes after ≡ put (take name_bytes before) end (joined (each entry_bytes es))
  pub long : length after ≡ length before
  pub moved : past ≡ end + length (joined (each entry_bytes es))
  pub fits : past ≤ name_bytes
  pub chained : (xs : List NameEntry) → Chained before end xs → Indexable xs es → Chained after past (xs ++ es)
  pub scope : (path : List Name) → InScope before path → InScope after path

-- there is room for them, and each name is short enough: "1 to 64 bytes"
pub record Fitting (end : ℕ) (es : List NameEntry) : Type 0 where
  pub room : end + length (joined (each entry_bytes es)) ≤ name_bytes
  pub short : All (λ (e : NameEntry). length e.name ≤ 64) es

-- they are written, unless they do not fit
pub record Enters (before after : List ℕ) (end : ℕ) (es : List NameEntry) (r : Option ℕ) : Type 0 where
  pub is : MatchOption r (Fitting end es → ⊥) (λ past. Entered before after end es past)
