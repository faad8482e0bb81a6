-- Document 01, "Reading the text" and "Refusal numbers" 1 and 2, and W-203: the scan of a text, as a state that goes over its bytes.
-- Assumes nothing.
use Rattle.lexer.specs.declared.ScanFault.{ScanFault}
use Rattle.std.specs.Prelude.{ℕ, ◌+◌, ◌-◌, cond, List, [], ◌∷◌, eqb, ltb, length, take, drop, Ok, Err, Result}
use Rattle.lexer.specs.Class.{class_of, in_word, ends_comment, is_name}
use Rattle.lexer.specs.declared.ByteClass.{ByteClass}
use Rattle.lexer.specs.declared.ByteClass.TheVariants.{Blank, LineFeed, Comment, Open, Close, Letter, Digit, Dot, Wrong}

-- "Text 65,535 bytes."
abbrev pub max_text : ℕ
max_text = 65535

-- "A part in parentheses may hold further parts, to 32 levels, the statement's own parentheses being level 1."
abbrev pub max_level : ℕ
max_level = 32

-- where a scan stands: between names, in a comment, or in the run of a name by the place of its first byte and its length so far
pub data Mode : Type 0 where
  between in_comment : Mode
  in_name : ℕ → ℕ → Mode

-- a scan that goes on, with so many parentheses open, or that has stopped at the place of a fault 2
pub data State : Type 0 where
  going : Mode → ℕ → State
  stopped : ℕ → State

-- "LF is a blank that also ends a comment; inside a comment any byte is allowed."
abbrev pub comment_then : ByteClass → Mode
comment_then k = cond (ends_comment k) between in_comment

-- A byte between names, at a level and a place. Fault 2 at "the byte": "wrong byte", "level 33", "close without open"; at the
-- "first byte of the name": "name outside parentheses", and a "bad" name, which starts with a digit or `-`. With a dot in front the dot
-- is the first byte.
abbrev pub step_between : ℕ → ℕ → ByteClass → State
step_between level at Blank = going between level
step_between level at LineFeed = going between level
step_between level at Comment = going in_comment level
step_between level at Open = cond (ltb level max_level) (going between (level + 1)) (stopped at)
step_between level at Close = cond (eqb level 0) (stopped at) (going between (level - 1))
step_between level at Letter = cond (eqb level 0) (stopped at) (going (in_name at 1) level)
step_between level at Digit = stopped at
step_between level at Dot = cond (eqb level 0) (stopped at) (going (in_name at 1) level)
step_between level at Wrong = stopped at

-- The byte after a run of so many bytes that began at a place, or the end of the text, finds it to be a name or not. Fault 2 at the "first byte of the
-- name": "bad or long name"; "any other dot, or more than 64 bytes not counting a leading dot, is fault 2 at the name's first byte".
abbrev pub if_name : {A : Type 0} → List ℕ → ℕ → ℕ → A → A → A
if_name text first len good bad = cond (is_name (take len (drop first text))) good bad

-- a byte of a run, or the byte after it
abbrev pub step_name : List ℕ → ℕ → ℕ → ℕ → ℕ → ByteClass → State
step_name text first len level at k =
    cond (in_word k) (going (in_name first (len + 1)) level) (if_name text first len (step_between level at k) (stopped first))

-- a byte of the text in any mode
abbrev pub step : List ℕ → Mode → ℕ → ℕ → ByteClass → State
step text between level at k = step_between level at k
step text in_comment level at k = going (comment_then k) level
step text (in_name first len) level at k = step_name text first len level at k

-- what the scan says of a text: nothing, or fault 1, or fault 2 at a place
abbrev pub Scanned : Type 0
Scanned = Result (Unit {0}) ScanFault

abbrev pub no_fault : Scanned
no_fault = Ok tt

-- the end of the text: "unclosed at end": "text length if unclosed"
abbrev pub closed_at : ℕ → ℕ → Scanned
closed_at level at = cond (eqb level 0) no_fault (Err (ScanFault.Wrong at))

abbrev pub end_of : List ℕ → Mode → ℕ → ℕ → Scanned
end_of text between level at = closed_at level at
end_of text in_comment level at = closed_at level at
end_of text (in_name first len) level at = if_name text first len (closed_at level at) (Err (ScanFault.Wrong first))

-- "2, where the scan stops at the first byte that is wrong (lowest place)": the bytes that are left of a text
unfoldable pub scan_from : List ℕ → List ℕ → State → ℕ → Scanned
scan_from text [] (stopped place) at = Err (ScanFault.Wrong place)
scan_from text [] (going mode level) at = end_of text mode level at
scan_from text (b ∷ bs) (stopped place) at = Err (ScanFault.Wrong place)
scan_from text (b ∷ bs) (going mode level) at = scan_from text bs (step text mode level at (class_of b)) (at + 1)

-- "Order: 1; then 2": a text that is too long is fault 1, whatever else is wrong in it
unfoldable pub scan : List ℕ → Scanned
scan text = cond (ltb max_text (length text)) (Err ScanFault.TooLong) (scan_from text text (going between 0) 0)

-- what document 01 says of a text: no fault, or a refusal by its number and place
pub data Verdict : Type 0 where
  clean : Verdict
  refused : ℕ → ℕ → Verdict

-- "1 | text too long | 65,535"; "2 | .. | the byte; first byte of the name; text length if unclosed"
abbrev pub verdict_of : Scanned → Verdict
verdict_of (Ok _) = clean
verdict_of (Err ScanFault.TooLong) = refused 1 max_text
verdict_of (Err (ScanFault.Wrong place)) = refused 2 place
