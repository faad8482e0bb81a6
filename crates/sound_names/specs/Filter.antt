-- The filter of the names so far: what it knows of the entries. It makes "unique in their families" quick to test. Assumes nothing.
use Rattle.std.specs.Prelude.{is_some}
use Rattle.std.specs.Prelude.{◌≡◌, List, ℕ, length}
use Rattle.policy.specs.Basics.{Name}
use Rattle.policy.specs.Encode.{NameEntry}
use Rattle.symbols.specs.Lookup.{first_named}
use Rattle.bloom_filter.specs.Filter.{Covers}

-- the filter covers each name of each family among the entries
pub record Knows (s : List ℕ) (es : List NameEntry) : Type 0 where
  pub long : length s ≡ 2048
  pub covers : (f : ℕ) → Covers s f (λ (w : Name). is_some (first_named f w es))
