-- A clean text, a line feed, and more text: the whole is a row of the first text's statements, then of what the rest reads as from there on.
-- (The line feed ends a comment that the first text may end in.) One induction over the bytes of the first text: with so many parentheses
-- open, the row that lies so far out goes on with the rest. Assumes nothing.
use Rattle.lexer.specs.declared.ScanFault.{ScanFault}
use Rattle.std.specs.Prelude.{Err}
use Prim.Native.Nat.{ℕ, zero, suc, ◌+◌, ◌-◌, ◌≤◌, ◌<◌}
use native.Mathlib.Numerals.{add-one}
use native.Mathlib.Omega.{arith}
use mathlib.Core.Path.{◌≡◌, refl, sym, ap, ◌∙◌}
use mathlib.Core.Bool.{Bool, true, false, cond}
use mathlib.Core.List.{List, [], ◌∷◌, ◌++◌}
use lib.Dec.{ltb, eqb, eqb-suc-zero}
use lib.ListN.{length, take, drop, length-drop}
use lib.Seq.{take-append-le, drop-append-le}
use borrow.Author.Tests.{eqb-false}
use Rattle.lexer.specs.declared.ByteClass.{ByteClass}
use Rattle.lexer.specs.declared.ByteClass.TheVariants.{Blank, LineFeed, Comment, Open, Close, Letter, Digit, Dot, Wrong}
use Rattle.lexer.specs.declared.Token.{Token}
use Rattle.lexer.specs.Class.{class_of, in_word, ends_comment, is_name}
use Rattle.lexer.specs.Scan.{max_text, max_level, Mode, between, in_comment, in_name, going, stopped, comment_then, step_between, step_name, scan_from, scan, no_fault}
use Rattle.lexer.specs.Token.{between_then, own_token, mode_then, ending, tokens_from, tokens_at}
use Rattle.lexer.specs.Forms.{ended, word, Frames, out, step, build, frames_at, forms_of}
use Rattle.lexer.proofs.Clean.{never, unclosed}
use Rattle.reading_laws.proofs.ReadThen.{◌then◌}

-- frames whose outermost row, so many rows out, goes on with other frames
abbrev going_on : ℕ → Frames → Frames → Frames
going_on zero f r = record { here = f.here then r.here; around = r.around }
going_on (suc k) f r = record { here = f.here; around = (going_on k (out f) r).here ∷ (going_on k (out f) r).around }

-- a name under way is within parentheses
abbrev Under : Mode → ℕ → ℕ → Type 0
Under between level at = Unit {0}
Under in_comment level at = Unit {0}
Under (in_name s n) level at = (0 < level) × (s + n ≡ at)

comment-under : (level at : ℕ) (k : ByteClass) → Under (comment_then k) level at
comment-under level at k = go (ends_comment k)
  where
    go : (q : Bool) → Under (cond q between in_comment) level at
    go true = tt
    go false = tt

module _ (t u : List ℕ) where
  abbrev whole : List ℕ
  whole = t ++ (10 ∷ u)

  rest : Frames
  rest = build whole (tokens_from u between (length t + 1))

  open-on : (k p : ℕ) (f r : Frames) → step whole (Token.Open p) (going_on (suc k) f r) ≡ going_on k (step t (Token.Open p) f) r
  open-on zero p f r = refl
  open-on (suc k) p f r = refl

  word_on : (k s n : ℕ) (f r : Frames) → 0 < k → s + n ≤ length t → step whole (Token.Word s n) (going_on k f r) ≡ going_on k (step t (Token.Word s n) f) r
  word_on zero s n f r l h = absurd (omega arith)
  word_on (suc k) s n f r l h =
      let e : take n (drop s whole) ≡ take n (drop s t)
      = ap (take n) (drop-append-le s t (10 ∷ u) (omega arith)) ∙ take-append-le n (drop s t) (10 ∷ u) (omega (arith, length-drop s t)) in
      ap (λ (w : List ℕ). record { here = word s w f.here; around = (going_on k (out f) r).here ∷ (going_on k (out f) r).around }) e

  -- what is left of the first text, read to its end and on, against what it reads as by itself
  abbrev GoesOn : List ℕ → Mode → ℕ → ℕ → Type 0
  GoesOn bs m level at = build whole (tokens_from (bs ++ (10 ∷ u)) m at) ≡ going_on level (build t (tokens_from bs m at)) rest

  module _ (bs : List ℕ) (at : ℕ) (left : at + 1 + length bs ≡ length t)
      (ih : (m : Mode) (level : ℕ) → Under m level (at + 1) → scan_from t bs (going m level) (at + 1) ≡ no_fault → GoesOn bs m level (at + 1)) where
    opened : (level : ℕ) (q : Bool) → scan_from t bs (cond q (going between (level + 1)) (stopped at)) (at + 1) ≡ no_fault
        → step whole (Token.Open at) (build whole (tokens_from (bs ++ (10 ∷ u)) between (at + 1))) ≡ going_on level
        (step t (Token.Open at) (build t (tokens_from bs between (at + 1)))) rest
    opened level false h = absurd (never t bs at (at + 1) h)
    opened level true h = ap (step whole (Token.Open at)) (ih between (suc level) tt (rw (add-one level) at h)) ∙ open-on level at (build t (tokens_from bs between (at + 1))) rest

    shut : (level : ℕ) → scan_from t bs (step_between level at Close) (at + 1) ≡ no_fault
        → step whole (Token.Close at) (build whole (tokens_from (bs ++ (10 ∷ u)) between (at + 1))) ≡ going_on level
        (step t (Token.Close at) (build t (tokens_from bs between (at + 1)))) rest
    shut zero h = absurd (never t bs at (at + 1) h)
    shut (suc level) h =
        let e : suc level - 1 ≡ level = omega arith in
        ap (step whole (Token.Close at)) (ih between level tt (rw (eqb-suc-zero level, e) at h))

    begun : (level : ℕ) (q : Bool) → eqb level 0 ≡ q → scan_from t bs (cond q (stopped at) (going (in_name at 1) level)) (at + 1) ≡ no_fault
        → GoesOn bs (in_name at 1) level (at + 1)
    begun level true e h = absurd (never t bs at (at + 1) h)
    begun level false e h = ih (in_name at 1) level (omega (arith, eqb-false level 0 e), refl) h

    in_between : (level : ℕ) (k : ByteClass) → scan_from t bs (step_between level at k) (at + 1) ≡ no_fault
        → build whole (own_token at k ++ tokens_from (bs ++ (10 ∷ u)) (between_then at k) (at + 1))
        ≡ going_on level (build t (own_token at k ++ tokens_from bs (between_then at k) (at + 1))) rest
    unfolding build
    in_between level Blank h = ih between level tt h
    in_between level LineFeed h = ih between level tt h
    in_between level Comment h = ih in_comment level tt h
    in_between level Open h = opened level (ltb level max_level) h
    in_between level Close h = shut level h
    in_between level Letter h = begun level (eqb level 0) refl h
    in_between level Digit h = absurd (never t bs at (at + 1) h)
    in_between level Dot h = begun level (eqb level 0) refl h
    in_between level Wrong h = absurd (never t bs at (at + 1) h)

    -- a run that is over is a name, and the byte after it is one between names
    over : (level s : ℕ) (k : ByteClass) (q : Bool) → scan_from t bs (cond q (step_between level at k) (stopped s)) (at + 1) ≡ no_fault
        → scan_from t bs (step_between level at k) (at + 1) ≡ no_fault
    over level s k true h = h
    over level s k false h = absurd (never t bs s (at + 1) h)

    in-name : (level s n : ℕ) (k : ByteClass) → Under (in_name s n) level at → scan_from t bs (step_name t s n level at k) (at + 1) ≡ no_fault
        → build whole (ending (in_name s n) at k ++ tokens_from (bs ++ (10 ∷ u)) (mode_then (in_name s n) at k) (at + 1))
        ≡ going_on level (build t (ending (in_name s n) at k ++ tokens_from bs (mode_then (in_name s n) at k) (at + 1))) rest
    unfolding build
    in-name level s n k v h = go (in_word k) refl
      where
        go : (q : Bool) → in_word k ≡ q
            → build whole (ending (in_name s n) at k ++ tokens_from (bs ++ (10 ∷ u)) (mode_then (in_name s n) at k) (at + 1))
            ≡ going_on level (build t (ending (in_name s n) at k ++ tokens_from bs (mode_then (in_name s n) at k) (at + 1))) rest
        go true g = rw g (ih (in_name s (n + 1)) level (v.0, omega arith) (rw g at h))
        go false g =
            rw g
            (ap (step whole (Token.Word s n)) (in_between level k (over level s k (is_name (take n (drop s t))) (rw g at h)))
            ∙ word_on level s n (build t (own_token at k ++ tokens_from bs (between_then at k) (at + 1))) rest v.0 (omega arith))

  at-end : (level at : ℕ) → at + 0 ≡ length t → scan_from t [] (going between level) at ≡ no_fault
      → build whole (tokens_from u between (at + 1)) ≡ going_on level (record { here = ended; around = [] }) rest
  unfolding scan_from rest
  at-end zero at e h = ap (λ (n : ℕ). build whole (tokens_from u between n)) (omega arith)
  at-end (suc level) at e h =
      let g : Err (ScanFault.Wrong at) ≡ no_fault = rw (eqb-suc-zero level) at h in
      let z : ◌≡◌ {A = ℕ} 0 1 = cc in
      absurd (omega arith)

  from : (bs : List ℕ) (m : Mode) (level at : ℕ) → at + length bs ≡ length t → Under m level at → scan_from t bs (going m level) at ≡ no_fault
      → GoesOn bs m level at
  unfolding scan_from tokens_from build class_of
  from [] between level at e v h = at-end level at e h
  from [] in_comment level at e v h = at-end level at e h
  from [] (in_name s n) level at e v h = absurd (unclosed level at s (is_name (take n (drop s t))) v.0 h)
  from (b ∷ bs) between level at e v h =
      in_between bs at (omega arith) (λ m l w g. from bs m l (at + 1) (omega arith) w g) level (class_of b) h
  from (b ∷ bs) in_comment level at e v h =
      from bs (comment_then (class_of b)) level (at + 1) (omega arith) (comment-under level (at + 1) (class_of b)) h
  from (b ∷ bs) (in_name s n) level at e v h =
      in-name bs at (omega arith) (λ m l w g. from bs m l (at + 1) (omega arith) w g) level s n (class_of b) v h

-- a clean scan goes over the bytes
clean-bytes : (t : List ℕ) → scan t ≡ no_fault → scan_from t t (going between 0) 0 ≡ no_fault
unfolding scan
clean-bytes t h = go (ltb max_text (length t)) h
  where
    go : (q : Bool) → cond q (Err ScanFault.TooLong) (scan_from t t (going between 0) 0) ≡ no_fault → scan_from t t (going between 0) 0 ≡ no_fault
    go true e = let z : ◌≡◌ {A = ℕ} 0 1 = cc in absurd (omega arith)
    go false e = e

drop_past : (t u : List ℕ) → drop (suc (length t)) (t ++ (10 ∷ u)) ≡ u
drop_past [] u = refl
drop_past (x ∷ t) u = drop_past t u

-- the whole is the statements of the first text, then what the text from there on reads as
pub text-then : (t u : List ℕ) → scan t ≡ no_fault → forms_of (t ++ (10 ∷ u)) ≡ forms_of t then (frames_at (t ++ (10 ∷ u)) (length t + 1)).here
unfolding forms_of frames_at tokens_at rest
text-then t u h =
    ap (λ (f : Frames). f.here) (from t u t between 0 0 (omega arith) tt (clean-bytes t h))
    ∙ ap (λ (l : List ℕ). (build t (tokens_from t between 0)).here then (build (t ++ (10 ∷ u)) (tokens_from l between (length t + 1))).here)
    (sym (ap (λ (n : ℕ). drop n (t ++ (10 ∷ u))) (add-one (length t)) ∙ drop_past t u))
