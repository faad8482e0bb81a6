-- Document 01's reading of a text, as it was before W-203, and what it is to say that a text is read as before: a text without dots and blocks is.
-- Assumes nothing.
use Rattle.lexer.specs.declared.ScanFault.{ScanFault}
use Rattle.std.specs.Prelude.{ℕ, ◌+◌, ◌≡◌, Bool, true, false, not, ◌&&◌, cond, List, [], ◌∷◌, ◌++◌, eqb, ltb, length, Err}
use Rattle.std.proofs.Math.Option.{Option, none, some}
use Rattle.lexer.specs.Class.{class_of, goes_on, max_name}
use Rattle.lexer.specs.Scan.{max_text, Mode, between, in_comment, in_name, State, going, stopped, comment_then, step_between, Scanned, no_fault}
use Rattle.lexer.specs.Token.{between_then, own_token, ending_last, tokens}
use Rattle.lexer.specs.Forms.{Forms, closed, ended, word, part, build}
use Rattle.lexer.specs.declared.ByteClass.{ByteClass}
use Rattle.lexer.specs.declared.ByteClass.TheVariants.{Blank, LineFeed, Comment, Open, Close, Letter, Digit, Dot, Wrong}
use Rattle.lexer.specs.declared.Token.{Token}
use Rattle.policy.specs.Basics.{Name, is_in, index_of}
use Rattle.policy.specs.Words.{reserved, is_reserved, dotless, as_name, as_part}
use Rattle.policy.specs.Statements.{Declaration, Policy, class_names, permissions, declarations}
use Rattle.policy.specs.Statements.{Written, Statement, as_declaration}
use Rattle.policy.specs.Names.{Environment, first_from}
use Rattle.policy.specs.Grammar.{written, is_block}
use Rattle.policy.specs.Reading as today
use Rattle.policy.specs.Reading.{again, resolved, has_room, shallow, Judged, reads, opens, fault, Read, policy, refused, after_scan, read_policy}

-- ---- the scan: a dot is a wrong byte, and a name is at most 64 bytes that go on

abbrev pub class_before : ByteClass → ByteClass
class_before Blank = Blank
class_before LineFeed = LineFeed
class_before Comment = Comment
class_before Open = Open
class_before Close = Close
class_before Letter = Letter
class_before Digit = Digit
class_before Dot = Wrong
class_before Wrong = Wrong

abbrev pub step_name : ℕ → ℕ → ℕ → ℕ → ByteClass → State
step_name first len level at k =
    cond (goes_on k) (cond (ltb len max_name) (going (in_name first (len + 1)) level) (stopped first)) (step_between level at k)

abbrev pub step : Mode → ℕ → ℕ → ByteClass → State
step between level at k = step_between level at k
step in_comment level at k = going (comment_then k) level
step (in_name first len) level at k = step_name first len level at k

unfoldable pub scan_from : List ℕ → State → ℕ → Scanned
scan_from [] (stopped place) at = Err (ScanFault.Wrong place)
scan_from [] (going mode level) at = cond (eqb level 0) no_fault (Err (ScanFault.Wrong at))
scan_from (b ∷ bs) (stopped place) at = Err (ScanFault.Wrong place)
scan_from (b ∷ bs) (going mode level) at = scan_from bs (step mode level at (class_before (class_of b))) (at + 1)

unfoldable pub scan : List ℕ → Scanned
scan text = cond (ltb max_text (length text)) (Err ScanFault.TooLong) (scan_from text (going between 0) 0)

-- ---- the tokens: a word is a run of bytes that go on a name

abbrev pub mode_then : Mode → ℕ → ByteClass → Mode
mode_then between at k = between_then at k
mode_then in_comment at k = comment_then k
mode_then (in_name first len) at k = cond (goes_on k) (in_name first (len + 1)) (between_then at k)

abbrev pub ending : Mode → ℕ → ByteClass → List Token
ending between at k = own_token at k
ending in_comment at k = []
ending (in_name first len) at k = cond (goes_on k) [] (Token.Word first len ∷ own_token at k)

unfoldable pub tokens_from : List ℕ → Mode → ℕ → List Token
tokens_from [] mode at = ending_last mode
tokens_from (b ∷ bs) mode at =
    let k = class_before (class_of b) in
    ending mode at k ++ tokens_from bs (mode_then mode at k) (at + 1)

unfoldable pub tokens_before : List ℕ → List Token
tokens_before text = tokens_from text between 0

-- the parts that they make are those of today
unfoldable pub forms_before : List ℕ → Forms
forms_before text = (build text (tokens_before text)).here

-- ---- the reading: a row of statements, and a name is looked up as it is written

unfoldable pub environment_of : List Declaration → Environment
environment_of ds = record {
  find = λ f w. first_from [] ds f w;
  class = λ w. index_of w (class_names ds);
  permission = λ c w. index_of w (permissions ds c);
}

-- "one of the other maxima passed": a full name is what is written, and the scan has seen to its length
abbrev pub fits : Policy → Statement → Bool
fits p s = elim (as_declaration s) [ none ↦ today.fits p s | some d ↦ has_room (declarations p) d ]

abbrev pub judge_resolved : Policy → Option Statement → Judged
judge_resolved p none = fault 5
judge_resolved p (some s) = cond (fits p s) (cond (shallow s) (reads s) (fault 7)) (fault 6)

-- the forms of statements are those of today: on words without dots they ask what document 01 asks (`words` below)
abbrev pub judge_statement : Policy → Option Written → Judged
judge_statement p none = fault 3
judge_statement p (some w) = elim (again (declarations p) w) [
  | true ↦ fault 4
  | false ↦ judge_resolved p (resolved (environment_of (declarations p)) w)
]

unfoldable pub read_from : Forms → Policy → Read
read_from closed p = policy p
read_from ended p = policy p
read_from (word at w after) p = read_from after p
read_from (part at inner after) p = elim (judge_statement p (written inner)) [
  | reads s ↦ read_from after (p ++ (record { place = at; says = s } ∷ []))
  | opens ↦ read_from after p
  | fault n ↦ refused n at
]

unfoldable pub read_before : List ℕ → Read
read_before text = after_scan (scan text) (read_from (forms_before text) [])

-- ---- texts without dots and blocks

-- no statement of the text starts with the word `block`
unfoldable pub blockless : Forms → Bool
blockless closed = true
blockless ended = true
blockless (word at w after) = blockless after
blockless (part at inner after) = not (is_block inner) && blockless after

-- W-203 changes nothing for them
pub record AsBefore : Type 0 where
  -- which words are reserved, and which may be declared
  pub words : (w : Name) → dotless w ≡ true → (is_reserved w ≡ is_in w reserved) × (as_part w ≡ as_name w)
  -- the tokens of the text
  pub splits : (text : List ℕ) → dotless text ≡ true → tokens text ≡ tokens_before text
  -- what is read of the text, or its refusal
  pub reads : (text : List ℕ) → dotless text ≡ true → blockless (forms_before text) ≡ true → read_policy text ≡ read_before text
