-- Document 01, "Reading the text": what a text is made of. "The text is a row of parenthesised statements. A part in
-- parentheses may hold further parts". Assumes nothing.
use Rattle.std.specs.Prelude.{ℕ, ◌-◌, Bool, true, false, ◌&&◌, List, [], ◌∷◌, eqb, take, drop}
use Rattle.lexer.specs.Class.{is_name}
use Rattle.lexer.specs.Token.{tokens_at}
use Rattle.lexer.specs.declared.Token.{Token}

-- the rest of a row: its close; the end of the text; a word by its place and bytes, then the rest; a part by the place of its
-- `(`, its own row, and the rest
pub data Forms : Type 0 where
  closed ended : Forms
  word : ℕ → List ℕ → Forms → Forms
  part : ℕ → Forms → Forms → Forms

-- the rest of the row at hand, and the rests of the rows around it, the innermost first
pub record Frames : Type 0 where
  pub here : Forms
  pub around : List Forms

abbrev pub head : List Forms → Forms
head [] = ended
head (f ∷ fs) = f

abbrev pub tail : List Forms → List Forms
tail [] = []
tail (f ∷ fs) = fs

-- past the close of the row at hand: the row around it is at hand
abbrev pub out : Frames → Frames
out r = record { here = head r.around; around = tail r.around }

-- the frames before a token, by those after it
abbrev pub step : List ℕ → Token → Frames → Frames
step t (Token.Open p) r = record { here = part p r.here (head r.around); around = tail r.around }
step t (Token.Close p) r = record { here = closed; around = r.here ∷ r.around }
step t (Token.Word s n) r = record { here = word s (take n (drop s t)) r.here; around = r.around }
step t Token.End r = r

unfoldable pub build : List ℕ → List Token → Frames
build t [] = record { here = ended; around = [] }
build t (k ∷ ks) = step t k (build t ks)

-- what the text from a place on reads as
unfoldable pub frames_at : List ℕ → ℕ → Frames
frames_at t at = build t (tokens_at t at)

-- the whole text: a row that ends with the text
unfoldable pub forms_of : List ℕ → Forms
forms_of t = (frames_at t 0).here

-- a row cut where a part lies deeper than so many levels
unfoldable pub trim : Forms → ℕ → Forms
trim closed n = closed
trim ended n = ended
trim (word s b f) n = word s b (trim f n)
trim (part p f g) n = elim (eqb n 0) [ true ↦ ended | false ↦ part p (trim f (n - 1)) (trim g n) ]

-- a row that a `)` closes, as every row in it is
unfoldable pub closes : Forms → Bool
closes closed = true
closes ended = false
closes (word s b f) = closes f
closes (part p f g) = closes f && closes g

-- "The text is a row of parenthesised statements": the text's own row has parts alone, each of them closed, and ends with the text
unfoldable pub balanced : Forms → Bool
balanced closed = false
balanced ended = true
balanced (word s b f) = false
balanced (part p f g) = closes f && balanced g

-- every word is a name
unfoldable pub names_good : Forms → Bool
names_good closed = true
names_good ended = true
names_good (word s b f) = is_name b && names_good f
names_good (part p f g) = names_good f && names_good g
