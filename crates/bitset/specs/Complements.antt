-- The two steps of a complement: what is not in the set, and of that what is below the total. Assumes nothing.
use Rattle.std.specs.Prelude.{not, ◌&&◌, List, ℕ, ltb, length}
use Rattle.bitset.specs.Sets.{member, set_of}

-- the numbers that are not in s, in as many bytes as s has
unfoldable pub flipped : List ℕ → List ℕ
flipped s = set_of (length s) (λ n. not (member s n))

-- the numbers in s that are below total
unfoldable pub kept_below : ℕ → List ℕ → List ℕ
kept_below total s = set_of (length s) (λ n. ltb n total && member s n)
