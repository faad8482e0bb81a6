-- The filter of names. Document 01 knows nothing of it: it makes it quick to test whether a name is new, and what is tested stays what the document says.
-- Assumes nothing.
use Rattle.std.specs.Prelude.{◌≡◌, Bool, true, List, [], ◌∷◌, ℕ, ◌+◌, ◌*◌, ◌/◌, ◌%◌, ◌^◌, ◌<◌, eqb, length, get_or, set}
use Rattle.std.specs.Int.Bits.{bit_or}
use Rattle.policy.specs.Basics.{Name}

-- the hash so far and one more number, cut to 32 bits
unfoldable pub stepped : ℕ → ℕ → ℕ
stepped h n = (h + n % 4294967296) * 1640531527 % 4294967296

-- the hash of a name's bytes, from a first hash on
unfoldable pub hash_from : List ℕ → ℕ → ℕ
hash_from [] h = h
hash_from (b ∷ bs) h = hash_from bs (stepped h b)

-- the hash of a name w of the family f, or of a block's name inside the block of the number f
unfoldable pub hash_of : ℕ → Name → ℕ
hash_of f w = stepped (hash_from w 0) f

-- a filter is words of 64 bits; the marks of a hash are three bits of one of them
unfoldable pub bit_of : ℕ → ℕ
bit_of n = 1 * 2 ^ (n % 64) % 18446744073709551616

unfoldable pub mask_of : ℕ → ℕ
mask_of h = bit_or (bit_or (bit_of (h / 32768)) (bit_of (h / 512))) (bit_of (h / 8))

abbrev pub word_of : List ℕ → ℕ → ℕ
word_of s h = h / 2097152 % length s

-- the word of a hash with its marks
abbrev pub with_marks : List ℕ → ℕ → ℕ
with_marks s h = bit_or (get_or s (word_of s h) 0) (mask_of h)

-- the filter has the marks of a hash
unfoldable pub is_marked : List ℕ → ℕ → Bool
is_marked s h = eqb (get_or s (word_of s h) 0) (with_marks s h)

-- the filter with the marks of a hash
unfoldable pub marked : List ℕ → ℕ → List ℕ
marked s h = set s (word_of s h) (with_marks s h)

-- the filter has the marks of each name of the family f that there is, so that a name without its marks is none of them
pub record Covers (s : List ℕ) (f : ℕ) (has : Name → Bool) : Type 0 where
  pub some_words : 0 < length s
  pub covered : (w : Name) → has w ≡ true → is_marked s (hash_of f w) ≡ true
