-- What a clean scan says of a text's forms: they are balanced, at most 32 levels deep, and every word is a name.
-- One induction over the bytes that are left: with so many parentheses open, so many rows are still to be closed, each of them with
-- room for one level more than the row in it. Assumes nothing.
use Rattle.lexer.specs.declared.ScanFault.{ScanFault}
use Rattle.std.specs.Prelude.{Err}
use mathlib.Core.Path.{◌≡◌, refl, sym, ap, ◌∙◌}
use mathlib.Core.Bool.{Bool, true, false, ◌&&◌, cond, and-eq-true_iff}
use mathlib.Core.List.{List, [], ◌∷◌, ◌++◌}
use Prim.Native.Nat.{ℕ, zero, suc, ◌+◌, ◌-◌, ◌≤◌, ◌<◌}
use native.Mathlib.Omega.{arith}
use native.Mathlib.Numerals.{add-one}
use borrow.Author.Tests.{ltb-true, ltb-false, eqb-false}
use lib.Dec.{ltb, eqb, eqb-suc-zero}
use lib.ListN.{length, take, drop}
use Rattle.lexer.specs.Class.{class_of, in_word, ends_comment, is_name}
use Rattle.lexer.specs.Scan.{max_text, max_level, Mode, between, in_comment, in_name, going, stopped, comment_then, step_between, step_name, closed_at, scan_from, scan, no_fault}
use Rattle.lexer.specs.Token.{between_then, own_token, mode_then, ending, tokens_from, tokens_at}
use Rattle.lexer.specs.Forms.{Forms, ended, word, part, Frames, head, tail, step, build, frames_at, forms_of, trim, closes, balanced, names_good}
use Rattle.lexer.specs.declared.ByteClass.{ByteClass}
use Rattle.lexer.specs.declared.ByteClass.TheVariants.{Blank, LineFeed, Comment, Open, Close, Letter, Digit, Dot, Wrong}
use Rattle.lexer.specs.declared.Token.{Token}
use Rattle.lexer.proofs.Scans.{halted}
use Rattle.lexer.proofs.Trim.{uncut}

-- ---- rows

-- a row that passes a test, has room for so many levels, and has names for words
record Row (q : Forms → Bool) (f : Forms) (room : ℕ) : Type 0 where
  pub shut : q f ≡ true
  pub deep : trim f room ≡ f
  pub names : names_good f ≡ true

-- the row at hand and the rows around it, where so many parentheses are open: they close, and the outermost is the text's own
abbrev Rows : List Forms → ℕ → Forms → ℕ → Type 0
Rows [] zero f room = Row balanced f room
Rows (g ∷ gs) zero f room = ⊥
Rows [] (suc level) f room = ⊥
Rows (g ∷ gs) (suc level) f room = Row closes f room × Rows gs level g (suc room)

abbrev Good : Frames → ℕ → ℕ → Type 0
Good r level room = Rows r.around level r.here room

part-row : (q : Forms → Bool) (p : ℕ) (f g : Forms) (room : ℕ) → q (part p f g) ≡ closes f && q g → Row closes f room → Row q g (suc room)
    → Row q (part p f g) (suc room)
unfolding names_good
part-row q p f g room e a b = record {
  shut = e ∙ (and-eq-true_iff (closes f) (q g)).1 (a.shut, b.shut);
  deep = uncut p f g room a.deep b.deep;
  names = (and-eq-true_iff (names_good f) (names_good g)).1 (a.names, b.names);
}

part-rows : (a : List Forms) (level room p : ℕ) (f : Forms) → Rows a (suc level) f room → Rows (tail a) level (part p f (head a)) (suc room)
unfolding closes balanced
part-rows [] level room p f r = absurd r
part-rows (g ∷ []) zero room p f r = part-row balanced p f g room refl r.0 r.1
part-rows (g ∷ h ∷ hs) zero room p f r = absurd r.1
part-rows (g ∷ []) (suc level) room p f r = absurd r.1
part-rows (g ∷ h ∷ hs) (suc level) room p f r = (part-row closes p f g room refl r.0 r.1.0, r.1.1)

word_rows : (a : List Forms) (level room s : ℕ) (b : List ℕ) (f : Forms) → 0 < level → is_name b ≡ true → Rows a level f room → Rows a level (word s b f) room
unfolding closes names_good trim
word_rows a zero room s b f l e r = absurd (omega arith)
word_rows [] (suc level) room s b f l e r = absurd r
word_rows (g ∷ gs) (suc level) room s b f l e r = (
  record { shut = r.0.shut; deep = ap (word s b) r.0.deep; names = (and-eq-true_iff (is_name b) (names_good f)).1 (e, r.0.names) },
  r.1,
)

-- ---- the induction

-- a run under way lies within parentheses
abbrev Under : Mode → ℕ → Type 0
Under between level = Unit {0}
Under in_comment level = Unit {0}
Under (in_name s n) level = 0 < level

comment-under : (level : ℕ) (k : ByteClass) → Under (comment_then k) level
comment-under level k = go (ends_comment k) refl
  where
    go : (q : Bool) → ends_comment k ≡ q → Under (comment_then k) level
    go true e = rw e tt
    go false e = rw e tt

not-wrong : (place : ℕ) → Err (ScanFault.Wrong place) ≡ no_fault → ⊥
not-wrong place h =
    let z : ◌≡◌ {A = ℕ} 0 1 = cc in
    omega arith

pub never : (t bs : List ℕ) (place at : ℕ) → scan_from t bs (stopped place) at ≡ no_fault → ⊥
never t bs place at h = not-wrong place (sym (halted t bs place at) ∙ h)

module _ (t bs : List ℕ) (b at : ℕ)
    (ih : (m : Mode) (level room : ℕ) → Under m level → scan_from t bs (going m level) (at + 1) ≡ no_fault → level + room ≡ max_level
    → Good (build t (tokens_from bs m (at + 1))) level room) where
  opened : (level room : ℕ) (q : Bool) → ltb level max_level ≡ q → scan_from t bs (cond q (going between (level + 1)) (stopped at)) (at + 1) ≡ no_fault
      → level + room ≡ max_level → Good (step t (Token.Open at) (build t (tokens_from bs between (at + 1)))) level room
  opened level room false e h r = absurd (never t bs at (at + 1) h)
  opened level zero true e h r = absurd (omega (arith, ltb-true level max_level e))
  opened level (suc room) true e h r =
      let f = build t (tokens_from bs between (at + 1)) in
      part-rows f.around level room at f.here (ih between (suc level) room tt (rw (add-one level) at h) (omega arith))

  shut : (level room : ℕ) → scan_from t bs (step_between level at Close) (at + 1) ≡ no_fault → level + room ≡ max_level
      → Good (step t (Token.Close at) (build t (tokens_from bs between (at + 1)))) level room
  unfolding closes names_good trim
  shut zero room h r = absurd (never t bs at (at + 1) h)
  shut (suc level) room h r =
      let e : suc level - 1 ≡ level = omega arith in (
        record { shut = refl; deep = refl; names = refl },
        ih between level (suc room) tt (rw (eqb-suc-zero level, e) at h) (omega arith),
      )

  begun : (level room : ℕ) (q : Bool) → eqb level 0 ≡ q → scan_from t bs (cond q (stopped at) (going (in_name at 1) level)) (at + 1) ≡ no_fault
      → level + room ≡ max_level → Good (build t (tokens_from bs (in_name at 1) (at + 1))) level room
  begun level room true e h r = absurd (never t bs at (at + 1) h)
  begun level room false e h r = ih (in_name at 1) level room (omega (arith, eqb-false level 0 e)) h r

  in_between : (level room : ℕ) (k : ByteClass) → scan_from t bs (step_between level at k) (at + 1) ≡ no_fault → level + room ≡ max_level
      → Good (build t (own_token at k ++ tokens_from bs (between_then at k) (at + 1))) level room
  unfolding build
  in_between level room Blank h r = ih between level room tt h r
  in_between level room LineFeed h r = ih between level room tt h r
  in_between level room Comment h r = ih in_comment level room tt h r
  in_between level room Open h r = opened level room (ltb level max_level) refl h r
  in_between level room Close h r = shut level room h r
  in_between level room Letter h r = begun level room (eqb level 0) refl h r
  in_between level room Digit h r = absurd (never t bs at (at + 1) h)
  in_between level room Dot h r = begun level room (eqb level 0) refl h r
  in_between level room Wrong h r = absurd (never t bs at (at + 1) h)

  -- a run that is over is a name
  run-over : (level room s n : ℕ) (k : ByteClass) (q : Bool) → is_name (take n (drop s t)) ≡ q → 0 < level
      → scan_from t bs (cond q (step_between level at k) (stopped s)) (at + 1) ≡ no_fault → level + room ≡ max_level
      → Good (step t (Token.Word s n) (build t (own_token at k ++ tokens_from bs (between_then at k) (at + 1)))) level room
  run-over level room s n k true e u h r =
      let f = build t (own_token at k ++ tokens_from bs (between_then at k) (at + 1)) in
      word_rows f.around level room s (take n (drop s t)) f.here u e (in_between level room k h r)
  run-over level room s n k false e u h r = absurd (never t bs s (at + 1) h)

  in-name : (level room s n : ℕ) (k : ByteClass) → 0 < level → scan_from t bs (step_name t s n level at k) (at + 1) ≡ no_fault
      → level + room ≡ max_level → Good (build t (ending (in_name s n) at k ++ tokens_from bs (mode_then (in_name s n) at k) (at + 1))) level room
  unfolding build
  in-name level room s n k u h r = go (in_word k) refl
    where
      go : (q : Bool) → in_word k ≡ q → Good (build t (ending (in_name s n) at k ++ tokens_from bs (mode_then (in_name s n) at k) (at + 1))) level room
      go true g = rw g (ih (in_name s (n + 1)) level room u (rw g at h) r)
      go false g = rw g (run-over level room s n k (is_name (take n (drop s t))) refl u (rw g at h) r)

-- the end of the text, where nothing is open
at-end : (level room at : ℕ) → closed_at level at ≡ no_fault → Good (record { here = ended; around = [] }) level room
unfolding balanced names_good trim
at-end zero room at h = record { shut = refl; deep = refl; names = refl }
at-end (suc level) room at h = absurd (not-wrong at (rw (eqb-suc-zero level) at h))

-- a run that ends with the text lies within parentheses, which are not closed
pub unclosed : (level at first : ℕ) (q : Bool) → 0 < level → cond q (closed_at level at) (Err (ScanFault.Wrong first)) ≡ no_fault → ⊥
unclosed zero at first q u h = omega arith
unclosed (suc level) at first true u h = not-wrong at (rw (eqb-suc-zero level) at h)
unclosed (suc level) at first false u h = not-wrong first h

from : (t bs : List ℕ) (m : Mode) (level room at : ℕ) → Under m level → scan_from t bs (going m level) at ≡ no_fault
    → level + room ≡ max_level → Good (build t (tokens_from bs m at)) level room
unfolding scan_from tokens_from build
from t [] between level room at u h r = at-end level room at h
from t [] in_comment level room at u h r = at-end level room at h
from t [] (in_name s n) level room at u h r = absurd (unclosed level at s (is_name (take n (drop s t))) u h)
from t (b ∷ bs) between level room at u h r =
    in_between t bs b at (λ m l o v g s. from t bs m l o (at + 1) v g s) level room (class_of b) h r
from t (b ∷ bs) in_comment level room at u h r =
    from t bs (comment_then (class_of b)) level room (at + 1) (comment-under level (class_of b)) h r
from t (b ∷ bs) (in_name s n) level room at u h r =
    in-name t bs b at (λ m l o v g s. from t bs m l o (at + 1) v g s) level room s n (class_of b) u h r

-- ---- the laws

outermost : (a : List Forms) (f : Forms) (room : ℕ) → Rows a 0 f room → Row balanced f room
outermost [] f room r = r
outermost (g ∷ gs) f room r = absurd r

not-long : (t : List ℕ) (q : Bool) → ltb max_text (length t) ≡ q → cond q (Err ScanFault.TooLong) (scan_from t t (going between 0) 0) ≡ no_fault
    → (length t ≤ max_text) × (scan_from t t (going between 0) 0 ≡ no_fault)
not-long t true e g =
    let z : ◌≡◌ {A = ℕ} 0 1 = cc in
    absurd (omega arith)
not-long t false e g = (ltb-false max_text (length t) e, g)

module _ (t : List ℕ) (h : scan t ≡ no_fault) where
  scanned : (length t ≤ max_text) × (scan_from t t (going between 0) 0 ≡ no_fault)
  unfolding scan
  scanned = not-long t (ltb max_text (length t)) refl h

  own_row : Row balanced (forms_of t) max_level
  unfolding tokens_at frames_at forms_of
  own_row =
      let r = build t (tokens_from t between 0) in
      outermost r.around r.here max_level (from t t between 0 max_level 0 tt scanned.1 refl)

  -- "Text 65,535 bytes."
  pub clean-short : length t ≤ max_text
  clean-short = scanned.0

  -- "The text is a row of parenthesised statements."
  pub clean-balanced : balanced (forms_of t) ≡ true
  clean-balanced = own_row.shut

  -- "A part in parentheses may hold further parts, to 32 levels": a cut at 32 levels leaves the forms as they are
  pub clean-uncut : trim (forms_of t) max_level ≡ forms_of t
  clean-uncut = own_row.deep

  -- every word is a name: "A dot may stand between name parts or in front; any other dot, or more than 64 bytes .. is fault 2"
  pub clean-names : names_good (forms_of t) ≡ true
  clean-names = own_row.names
