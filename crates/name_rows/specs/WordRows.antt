-- The words of a row, as far as it is of words alone, and how a row goes on at a place of a text. Assumes nothing.
use Rattle.std.specs.Prelude.{ℕ, ◌+◌, ◌<◌, ◌≤◌, ◌≡◌, Bool, ◌||◌, List, [], ◌∷◌, eqb, ltb, length, take}
use Rattle.byte_slices.specs.Parts as parts
use Rattle.lexer.specs.Forms.{Forms, closed, ended, word, part, frames_at}
use Rattle.policy.specs.Basics.{Name, any, is_in}

-- the words before anything else
unfoldable pub words_in : Forms → List Name
words_in closed = []
words_in ended = []
words_in (word at w after) = w ∷ words_in after
words_in (part p i after) = []

-- a name is one of the first k words of the row at a place
abbrev pub is_among_first : List ℕ → ℕ → ℕ → Name → Bool
is_among_first t at k w = is_in w (take k (words_in (frames_at t at).here))

-- whether a name may be one of the first k words of a row, by its first eight bytes and theirs: it is none of them where those of all k are kept and none is
-- its own; where fewer are kept, it may be
abbrev pub may_be_among : List ℕ → ℕ → ℕ → Bool
may_be_among fronts k front = ltb (length fronts) k || any (eqb front) (take k fronts)

-- the row at a place starts with the word of n bytes at s
pub record WordHere (t : List ℕ) (at s n : ℕ) : Type 0 where
  pub here : (frames_at t at).here ≡ word s (parts.part t s n) (frames_at t (s + n)).here
  pub ahead : at < s + n
  pub within : s + n ≤ length t

-- where a part is next, its own row is at r
pub record Inside (t : List ℕ) (at r : ℕ) : Type 0 where
  pub row : (p : ℕ) (i after : Forms) → (frames_at t at).here ≡ part p i after → (frames_at t r).here ≡ i
