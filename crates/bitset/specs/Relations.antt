-- A relation as the bytes of a body: a set for each row, one after the other, as document 01 has "Roles of each user, 16 bytes each".
-- In rows of w bytes number m of row u is number 8 * w * u + m of the whole body. Assumes nothing.
use Rattle.std.specs.Prelude.{Bool, ◌&&◌, ◌||◌, List, [], ◌∷◌, ◌++◌, ℕ, ◌*◌, ◌/◌, ◌%◌, ◌≤◌, ◌<◌, length, take}
use Rattle.bitset.specs.Sets.{member, set_of, tabulate}

module _ {A : Type 0} where
  -- one list after the other
  unfoldable pub joined : List (List A) → List A
  joined [] = []
  joined (l ∷ ls) = l ++ joined ls

-- n sets of w bytes each: number m of row u is in where f u m is true
unfoldable pub relation : ℕ → ℕ → (ℕ → ℕ → Bool) → List ℕ
relation n w f = joined (tabulate n (λ u. set_of w (f u)))

-- "`userrole` gives every user of its first set every role of its second": in a body of rows of w bytes each row whose number is in us
-- gains what rs has, as far as a row reaches
unfoldable pub granted : ℕ → List ℕ → List ℕ → List ℕ → List ℕ
granted w body us rs =
    set_of (length body) (λ m. member body m || (member us (m / (8 * w)) && member (take w rs) (m % (8 * w))))

-- r rows of w bytes start in a body of so many bytes
pub record Rows (w size r : ℕ) : Type 0 where
  pub starts : (u : ℕ) → u < r → w * u < size
  pub all : size ≤ w * r
