-- Document 01, "Reading the text", and W-203: the tokens of a text, parentheses by their places and words by the place of their first
-- byte and their length. Blanks and comments part tokens and are none. A text with a fault 2 has tokens too, though nobody
-- reads them: there a wrong byte is passed over as a blank is, and a word is any run of bytes that names are made of, dots among them.
-- Assumes nothing.
use Rattle.std.specs.Prelude.{ℕ, ◌+◌, cond, List, [], ◌∷◌, ◌++◌, drop}
use Rattle.lexer.specs.Class.{class_of, in_word}
use Rattle.lexer.specs.Scan.{Mode, between, in_comment, in_name, comment_then}
use Rattle.lexer.specs.declared.ByteClass.{ByteClass}
use Rattle.lexer.specs.declared.ByteClass.TheVariants.{Blank, LineFeed, Comment, Open, Close, Letter, Digit, Dot, Wrong}
use Rattle.lexer.specs.declared.Token.{Token}

-- between tokens: what a byte at a place begins
abbrev pub between_then : ℕ → ByteClass → Mode
between_then at Blank = between
between_then at LineFeed = between
between_then at Comment = in_comment
between_then at Open = between
between_then at Close = between
between_then at Letter = in_name at 1
between_then at Digit = in_name at 1
between_then at Dot = in_name at 1
between_then at Wrong = between

-- between tokens: the token that a byte at a place is by itself, if any
abbrev pub own_token : ℕ → ByteClass → List Token
own_token at Blank = []
own_token at LineFeed = []
own_token at Comment = []
own_token at Open = Token.Open at ∷ []
own_token at Close = Token.Close at ∷ []
own_token at Letter = []
own_token at Digit = []
own_token at Dot = []
own_token at Wrong = []

-- the mode after a byte
abbrev pub mode_then : Mode → ℕ → ByteClass → Mode
mode_then between at k = between_then at k
mode_then in_comment at k = comment_then k
mode_then (in_name first len) at k = cond (in_word k) (in_name first (len + 1)) (between_then at k)

-- the tokens that end with a byte: the word before it, and its own
abbrev pub ending : Mode → ℕ → ByteClass → List Token
ending between at k = own_token at k
ending in_comment at k = []
ending (in_name first len) at k = cond (in_word k) [] (Token.Word first len ∷ own_token at k)

-- the word that ends with the text
abbrev pub ending_last : Mode → List Token
ending_last between = []
ending_last in_comment = []
ending_last (in_name first len) = Token.Word first len ∷ []

-- the tokens of the bytes that are left
unfoldable pub tokens_from : List ℕ → Mode → ℕ → List Token
tokens_from [] mode at = ending_last mode
tokens_from (b ∷ bs) mode at = ending mode at (class_of b) ++ tokens_from bs (mode_then mode at (class_of b)) (at + 1)

-- the tokens of a text from a place on, where no token and no comment is under way at that place
unfoldable pub tokens_at : List ℕ → ℕ → List Token
tokens_at text at = tokens_from (drop at text) between at

-- the tokens of a text
unfoldable pub tokens : List ℕ → List Token
tokens text = tokens_at text 0

-- the first of some tokens, or that there is none
abbrev pub first_of : List Token → Token
first_of [] = Token.End
first_of (k ∷ ks) = k

-- the first token of a text from a place on
unfoldable pub token_at : List ℕ → ℕ → Token
token_at text at = first_of (tokens_at text at)
