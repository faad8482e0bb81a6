-- What the answers of the lexer's own functions say of a text. Assumes nothing.
use Rattle.std.specs.Prelude.{ℕ, ◌+◌, Bool, true, false, not, ◌||◌, ◌&&◌, cond, List, [], ◌∷◌, drop}
use Prim.Native.Char.{code}
use Rattle.lexer.specs.Class.{class_of, starts, goes_on, is_dot, in_word, ends_comment}
use Rattle.lexer.specs.Scan.{between, in_comment, in_name, State, going, stopped}
use Rattle.lexer.specs.declared.ByteClass.{ByteClass}
use Rattle.lexer.specs.declared.ByteClass.TheVariants.{Blank, LineFeed, Comment, Open, Close, Letter, Digit, Dot, Wrong}
use Rattle.lexer.specs.declared.Step.{Step}

-- "One table of 256 entries says what each byte is": the mark of a class in the table: a capital where names are made of it, the last of them for the dot
abbrev pub mark_of : ByteClass → ℕ
mark_of Blank = code "b"
mark_of LineFeed = code "n"
mark_of Comment = code "s"
mark_of Open = code "o"
mark_of Close = code "c"
mark_of Letter = code "L"
mark_of Digit = code "D"
mark_of Dot = code "P"
mark_of Wrong = code "w"

-- a word goes on with the first of the bytes, if there is one
abbrev pub word_goes_on : List ℕ → Bool
word_goes_on [] = false
word_goes_on (b ∷ bs) = in_word (class_of b)

-- a part of a name starts with the first of the bytes
abbrev pub part_starts : List ℕ → Bool
part_starts [] = false
part_starts (b ∷ bs) = starts (class_of b)

-- the first of the bytes is a dot with no part after it
abbrev pub bare_dot : List ℕ → Bool
bare_dot [] = false
bare_dot (b ∷ bs) = is_dot (class_of b) && not (part_starts bs)

-- a name goes on with the first of the bytes: a part that is under way does, or it is a dot with a part after it
abbrev pub name_goes_on : List ℕ → Bool
name_goes_on [] = false
name_goes_on (b ∷ bs) = goes_on (class_of b) || (is_dot (class_of b) && part_starts bs)

-- the place from which the bytes of a name are counted that begins at a place: "not counting a leading dot"
abbrev pub counted_from : List ℕ → ℕ → ℕ
counted_from [] at = at
counted_from (b ∷ bs) at = cond (is_dot (class_of b)) (at + 1) at

-- the place of the first byte whose class passes the test, or the place after the last byte
unfoldable pub first_from : List ℕ → (ByteClass → Bool) → ℕ → ℕ
first_from [] test at = at
first_from (b ∷ bs) test at = elim (test (class_of b)) [ true ↦ at | false ↦ first_from bs test (at + 1) ]

-- where a comment ends that is under way at a place: at its LF, or with the text
abbrev pub comment_end : List ℕ → ℕ → ℕ
comment_end text at = first_from (drop at text) ends_comment at

-- a word does not go on with the class
abbrev pub ends_word : ByteClass → Bool
ends_word k = not (in_word k)

-- where a word ends that is under way at a place: at the first byte that does not go on a word, or with the text
abbrev pub word_end : List ℕ → ℕ → ℕ
word_end text at = first_from (drop at text) ends_word at

-- the state after a byte between names, at a level and a place, by the step that it is
abbrev pub state_of : ℕ → ℕ → Step → State
state_of level at (Step.Level l) = going between l
state_of level at Step.Comment = going in_comment level
state_of level at Step.Name = going (in_name at 1) level
state_of level at Step.Fault = stopped at
