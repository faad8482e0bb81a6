-- A word by its length and two numbers, little endian: that of its first eight letters and that of the letters after them. Words of bytes are the same if
-- and only if these are, so the numbers may be compared in place of the letters. Assumes nothing.
use Rattle.std.specs.Prelude.{ℕ, ◌+◌, ◌&&◌, cond, List, [], ◌∷◌, eqb, length, take, drop}
use Rattle.policy.specs.Basics.{Name, unle}
use Rattle.policy.specs.Words.{reserved}
use Rattle.words.specs.Numbers.{keywords, words}

-- the same as numberIn of specs/Numbers, by the length and the two numbers
unfoldable pub number_among : List Name → ℕ → ℕ → ℕ → ℕ → ℕ
number_among [] len low high n = 0
number_among (x ∷ xs) len low high n =
    cond (eqb len (length x) && (eqb high (unle (drop 8 x)) && eqb low (unle (take 8 x)))) n (number_among xs len low high (n + 1))

-- the number of a word by its length and its two numbers
unfoldable pub number_by : ℕ → ℕ → ℕ → ℕ
number_by len low high = number_among words len low high 1

-- to unfold this is to unfold all that number_by is made of
unfoldable pub computing : Unit {0}
unfolding unle reserved keywords words number_among number_by
computing = tt
