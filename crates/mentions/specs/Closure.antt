-- Document 01, fault 8: "an attribute's sets mention it, directly or through others". The rows of mentions, 64 bytes for each of 64
-- attributes, are closed: what mentions k also mentions what k mentions, for one k after the other. Assumes nothing.
use Rattle.std.specs.Prelude.{ℕ, zero, suc, ◌&&◌, List, ltb}
use Rattle.bitset.specs.Sets.{set_of}
use Rattle.bitset.specs.Relations.{granted}
use Rattle.set_code.specs.Evaluation.{sets_in}

-- the rows that have k
unfoldable pub column_of : List ℕ → ℕ → List ℕ
column_of rows k = set_of 64 (λ a. ltb a 64 && sets_in rows a k)

-- each of them gains row k
unfoldable pub through_of : List ℕ → ℕ → List ℕ
through_of rows k = granted 64 rows (column_of rows k) (set_of 64 (sets_in rows k))

-- for every k below a bound
unfoldable pub closed_of : ℕ → List ℕ → List ℕ
closed_of zero rows = rows
closed_of (suc k) rows = through_of (closed_of k rows) k
