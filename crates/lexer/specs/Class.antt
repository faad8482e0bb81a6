-- Document 01, "Reading the text", and W-203: what each byte is, and what a name is. Assumes nothing.
use Rattle.std.specs.Prelude.{ℕ, Bool, true, false, ◌||◌, ◌&&◌, cond, List, [], ◌∷◌, eqb, leb, length}
use Prim.Native.Char.{Char, code}
use Rattle.lexer.specs.declared.ByteClass.{ByteClass}
use Rattle.lexer.specs.declared.ByteClass.TheVariants.{Blank, LineFeed, Comment, Open, Close, Letter, Digit, Dot, Wrong}

-- b is the byte of c; b is one of the bytes from that of lo to that of hi
abbrev pub is : Char → ℕ → Bool
is c b = eqb b (code c)

abbrev pub from_to : Char → Char → ℕ → Bool
from_to lo hi b = leb (code lo) b && leb b (code hi)

-- "blank (space, tab, CR)"
abbrev pub is_blank : ℕ → Bool
is_blank b = is " " b || is "\t" b || is "\r" b

-- "letter or `_`"
abbrev pub is_letter : ℕ → Bool
is_letter b = from_to "A" "Z" b || from_to "a" "z" b || is "_" b

-- "digit or `-`"
abbrev pub is_digit : ℕ → Bool
is_digit b = from_to "0" "9" b || is "-" b

-- "One table of 256 entries says what each byte is: blank (space, tab, CR), comment start `;`, open, close, letter or `_`,
-- digit or `-`, LF's own class, or wrong." With W-203 the dot has a class of its own too.
unfoldable pub class_of : ℕ → ByteClass
class_of b =
    cond (is_blank b) Blank
    (cond (is ";" b) Comment
    (cond (is "(" b) Open
    (cond (is ")" b) Close
    (cond (is_letter b) Letter
    (cond (is_digit b) Digit
    (cond (is "." b) Dot
    (cond (is "\n" b) LineFeed
    Wrong)))))))

-- "A name starts with a letter or `_`": so does each of its parts
abbrev pub starts : ByteClass → Bool
starts Blank = false
starts LineFeed = false
starts Comment = false
starts Open = false
starts Close = false
starts Letter = true
starts Digit = false
starts Dot = false
starts Wrong = false

-- "goes on with letters, digits, `_`, `-`": so does each part
abbrev pub goes_on : ByteClass → Bool
goes_on Blank = false
goes_on LineFeed = false
goes_on Comment = false
goes_on Open = false
goes_on Close = false
goes_on Letter = true
goes_on Digit = true
goes_on Dot = false
goes_on Wrong = false

-- a dot, which neither starts a part nor goes on one
abbrev pub is_dot : ByteClass → Bool
is_dot Blank = false
is_dot LineFeed = false
is_dot Comment = false
is_dot Open = false
is_dot Close = false
is_dot Letter = false
is_dot Digit = false
is_dot Dot = true
is_dot Wrong = false

-- "A dot may stand between name parts or in front": a name is the longest run of bytes that go on a part and of dots
abbrev pub in_word : ByteClass → Bool
in_word Blank = false
in_word LineFeed = false
in_word Comment = false
in_word Open = false
in_word Close = false
in_word Letter = true
in_word Digit = true
in_word Dot = true
in_word Wrong = false

-- "LF is a blank that also ends a comment; inside a comment any byte is allowed."
abbrev pub ends_comment : ByteClass → Bool
ends_comment Blank = false
ends_comment LineFeed = true
ends_comment Comment = false
ends_comment Open = false
ends_comment Close = false
ends_comment Letter = false
ends_comment Digit = false
ends_comment Dot = false
ends_comment Wrong = false

-- "1 to 64 bytes", W-203: "not counting a leading dot"
abbrev pub max_name : ℕ
max_name = 64

-- each of them goes on a part
unfoldable pub all_go_on : List ℕ → Bool
all_go_on [] = true
all_go_on (b ∷ bs) = goes_on (class_of b) && all_go_on bs

-- "A name starts with a letter or `_`, goes on with letters, digits, `_`, `-`": a part does, and is not empty
unfoldable pub is_part : List ℕ → Bool
is_part [] = false
is_part (b ∷ bs) = starts (class_of b) && all_go_on bs

unfoldable pub all_parts : List (List ℕ) → Bool
all_parts [] = true
all_parts (p ∷ ps) = is_part p && all_parts ps

-- a byte before the first of some parts
abbrev pub on_first : ℕ → List (List ℕ) → List (List ℕ)
on_first b [] = (b ∷ []) ∷ []
on_first b (p ∷ ps) = (b ∷ p) ∷ ps

-- what is before, between and after the dots
unfoldable pub parts : List ℕ → List (List ℕ)
parts [] = [] ∷ []
parts (b ∷ bs) = elim (is_dot (class_of b)) [ true ↦ [] ∷ parts bs | false ↦ on_first b (parts bs) ]

-- "A dot may stand between name parts .. any other dot .. is fault 2"
unfoldable pub has_good_parts : List ℕ → Bool
has_good_parts w = all_parts (parts w)

-- what follows "a leading dot"
abbrev pub after_leading_dot : List ℕ → List ℕ
after_leading_dot [] = []
after_leading_dot (b ∷ bs) = cond (is_dot (class_of b)) bs (b ∷ bs)

-- "A dot may stand between name parts or in front; any other dot, or more than 64 bytes not counting a leading dot, is fault 2"
unfoldable pub is_name : List ℕ → Bool
is_name w = has_good_parts (after_leading_dot w) && leb (length (after_leading_dot w)) max_name
