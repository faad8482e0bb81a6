-- The words of a text without a dot, where its scan is clean: none of them has a dot, and none has more than 64 bytes. Assumes nothing.
use Prim.Native.Nat.{ℕ, ◌≤◌}
use mathlib.Core.Path.{◌≡◌}
use mathlib.Core.Bool.{true}
use mathlib.Core.List.{List, [], ◌∷◌}
use lib.ListN.{length, drop}
use Rattle.lexer.specs.Class.{max_name, is_name}
use Rattle.lexer.specs.Scan.{scan, no_fault}
use Rattle.lexer.specs.Token.{tokens_at}
use Rattle.lexer.specs.Forms.{Forms, closed, ended, word, part, Frames, head, tail, step, build, frames_at, forms_of, names_good}
use Rattle.lexer.specs.declared.Token.{Token}
use Rattle.lexer.proofs.Clean.{clean-names}
use Rattle.policy.specs.Basics.{Name, All}
use Rattle.policy.specs.Words.{dotless}
use Rattle.policy.proofs.Lists.{both_true}
use Rattle.before_laws.proofs.Dotless.{take-dotless, drop-dotless, name-short}

-- a property of every word of a row and of the rows in it
abbrev pub Words : (Name → Type 0) → Forms → Type 0
Words P closed = Unit {0}
Words P ended = Unit {0}
Words P (word at w after) = P w × Words P after
Words P (part at inner after) = Words P inner × Words P after

-- a word has no dot; and is not too long for a name
abbrev Undotted : Name → Type 0
Undotted w = dotless w ≡ true

abbrev pub Plain : Name → Type 0
Plain w = (dotless w ≡ true) × (length w ≤ max_name)

-- ---- words are parts of the text

-- the words of the row at hand and of the rows around it have no dot
abbrev Around : Frames → Type 0
Around r = Words Undotted r.here × All (Words Undotted) r.around

-- the innermost of the rows around, and the others
head-words : (fs : List Forms) → All (Words Undotted) fs → Words Undotted (head fs)
head-words [] x = tt
head-words (f ∷ fs) x = x.0

tail-words : (fs : List Forms) → All (Words Undotted) fs → All (Words Undotted) (tail fs)
tail-words [] x = tt
tail-words (f ∷ fs) x = x.1

module _ (t : List ℕ) (e : dotless t ≡ true) where
  -- a word is cut from the text
  token-words : (k : Token) (r : Frames) → Around r → Around (step t k r)
  token-words (Token.Open p) r x = ((x.0, head-words r.around x.1), tail-words r.around x.1)
  token-words (Token.Close p) r x = (tt, x)
  token-words (Token.Word s n) r x = ((take-dotless n (drop s t) (drop-dotless s t e), x.0), x.1)
  token-words Token.End r x = x

  -- whatever its tokens are
  built-words : (ks : List Token) → Around (build t ks)
  unfolding build
  built-words [] = (tt, tt)
  built-words (k ∷ ks) = token-words k (build t ks) (built-words ks)

-- ---- words are names

-- a name without a dot has at most 64 bytes
plain-words : (f : Forms) → Words Undotted f → names_good f ≡ true → Words Plain f
unfolding names_good
plain-words closed x h = tt
plain-words ended x h = tt
plain-words (word at w after) x h =
    let p = both_true (is_name w) (names_good after) h in
    ((x.0, name-short w x.0 p.0), plain-words after x.1 p.1)
plain-words (part at inner after) x h =
    let p = both_true (names_good inner) (names_good after) h in
    (plain-words inner x.0 p.0, plain-words after x.1 p.1)

-- the words of a clean text are names
pub text-words : (t : List ℕ) → dotless t ≡ true → scan t ≡ no_fault → Words Plain (forms_of t)
unfolding frames_at forms_of
text-words t e h = plain-words (forms_of t) (built-words t e (tokens_at t 0)).0 (clean-names t h)
