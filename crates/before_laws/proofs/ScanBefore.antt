-- The scan of bytes without a dot says what document 01's does. Document 01's scan stops at the 65th byte of a name, today's reads the run to its
-- end and then finds it to be too long: the fault is at its first byte in both. Assumes nothing.
use Rattle.lexer.specs.declared.ScanFault.{ScanFault}
use Rattle.std.specs.Prelude.{Err}
use Prim.Native.Nat.{ℕ, ◌+◌, ◌-◌, ◌≤◌}
use mathlib.Core.Path.{◌≡◌, refl, sym, ap, ◌∙◌}
use mathlib.Core.Bool.{Bool, true, false, cond, false≢true}
use mathlib.Core.List.{List, [], ◌∷◌, ◌++◌, append_assoc, append-nil}
use native.Mathlib.Omega.{arith}
use borrow.Author.Tests.{ltb-true, ltb-false}
use lib.Dec.{eqb, ltb}
use lib.ListN.{length, length-append, take, drop}
use lib.Seq.{take-append_seam}
use Rattle.lexer.specs.Class.{class_of, starts, goes_on, is_dot, in_word, ends_comment, max_name, is_name}
use Rattle.lexer.specs.Scan.{max_text, max_level, between, in_comment, in_name, State, going, stopped, comment_then, step_between, step, scan_from, scan}
use Rattle.lexer.specs.declared.ByteClass.{ByteClass}
use Rattle.lexer.specs.declared.ByteClass.TheVariants.{Blank, LineFeed, Comment, Open, Close, Letter, Digit, Dot, Wrong}
use Rattle.lexer.proofs.Names.{part-in-word, part-byte, SoFar, letter-first, grown, one-too-many, finished}
use Rattle.lexer.proofs.Scans.{halted}
use Rattle.lexer.proofs.Ends.{rest}
use Rattle.lexer.proofs.Variants.{by-class}
use Rattle.policy.specs.Words.{dotless}
use Rattle.policy.proofs.Dotless.{first-and-rest}
use Rattle.before_laws.specs.Before as before
use Rattle.before_laws.specs.Before.{class_before}

-- but for the dot, the classes are those of document 01
pub class-as-before : (k : ByteClass) → is_dot k ≡ false → class_before k ≡ k
class-as-before k e = rw e at (by-class (λ k. cond (is_dot k) Dot (class_before k)) (λ k. k) refl k)

-- ---- a run of bytes that a name is made of

-- the bytes w are a run: they are from the place `first` on, `len` of them, before the bytes bs that are left of the text
record Run (t w bs : List ℕ) (first len : ℕ) : Type 0 where
  pub placed : drop first t ≡ w ++ bs
  pub long : length w ≡ len

-- what today's scan judges when the run is over is the run
judged : (t w bs : List ℕ) (first len : ℕ) → Run t w bs first len → take len (drop first t) ≡ w
judged t w bs first len x = ap (λ (n : ℕ). take n (drop first t)) (sym x.long) ∙ ap (take (length w)) x.placed ∙ take-append_seam w bs

-- a byte more
longer : (t w bs : List ℕ) (b first len : ℕ) → Run t w (b ∷ bs) first len → Run t (w ++ b ∷ []) bs first (len + 1)
longer t w bs b first len x = record {
  placed = x.placed ∙ sym (append_assoc w (b ∷ []) bs);
  long = length-append w (b ∷ []) ∙ ap (λ (n : ℕ). n + 1) x.long;
}

-- where no bytes to come make the run a name today's scan ends at its first byte
doomed : (t w bs : List ℕ) (first len level at : ℕ) → Run t w bs first len → ((rest : List ℕ) → is_name (w ++ rest) ≡ false)
    → scan_from t bs (going (in_name first len) level) at ≡ Err (ScanFault.Wrong first)
unfolding scan_from
doomed t w [] first len level at x h = rw (judged t w [] first len x, ap is_name (sym (append-nil w)) ∙ h [])
doomed t w (b ∷ bs) first len level at x h =
    go (in_word (class_of b)) refl
    (doomed t (w ++ b ∷ []) bs first (len + 1) level (at + 1) (longer t w bs b first len x)
    (λ rest. ap is_name (append_assoc w (b ∷ []) rest) ∙ h (b ∷ rest)))
  where
    go : (q : Bool) → in_word (class_of b) ≡ q → scan_from t bs (going (in_name first (len + 1)) level) (at + 1) ≡ Err (ScanFault.Wrong first)
        → scan_from t bs (step t (in_name first len) level at (class_of b)) (at + 1) ≡ Err (ScanFault.Wrong first)
    go true e i = rw e i
    go false e i = rw (e, judged t w (b ∷ bs) first len x, ap is_name (sym (append-nil w)) ∙ h []) (halted t bs first (at + 1))

-- a run that may still become a name
record Underway (t bs : List ℕ) (first len : ℕ) : Type 0 where
  pub bytes : List ℕ
  pub run : Run t bytes bs first len
  pub so_far : SoFar bytes len false
  pub short : len ≤ max_name

-- it is a name as it is
is_name_lem : (t bs : List ℕ) (first len : ℕ) → Underway t bs first len → is_name (take len (drop first t)) ≡ true
is_name_lem t bs first len x = ap is_name (judged t x.bytes bs first len x.run) ∙ finished x.bytes len false x.so_far x.short

-- ---- both scans, byte by byte

-- what is known in a state, with the bytes bs left of the text: where both scans are in a run, it may still become a name
abbrev Known : List ℕ → List ℕ → State → Type 0
Known t bs (stopped place) = Unit {0}
Known t bs (going between level) = Unit {0}
Known t bs (going in_comment level) = Unit {0}
Known t bs (going (in_name first len) level) = Underway t bs first len

-- a choice between two states; the states of a comment
either : (t bs : List ℕ) (q : Bool) (r s : State) → Known t bs r → Known t bs s → Known t bs (cond q r s)
either t bs true r s x y = x
either t bs false r s x y = y

comment-known : (t bs : List ℕ) (level : ℕ) (k : ByteClass) → Known t bs (going (comment_then k) level)
comment-known t bs level k = go (ends_comment k)
  where
    go : (q : Bool) → Known t bs (going (cond q between in_comment) level)
    go true = tt
    go false = tt

module _ (t bs : List ℕ) (b at : ℕ) (h : drop at t ≡ b ∷ bs) where
  -- a letter begins a run
  begun : starts (class_of b) ≡ true → Underway t bs at 1
  begun e = record { bytes = b ∷ []; run = record { placed = h; long = refl }; so_far = letter-first b e; short = omega arith }

  -- so whatever a byte between names begins is known as it should be
  between_known : (level : ℕ) (k : ByteClass) → class_of b ≡ k → is_dot k ≡ false → Known t bs (step_between level at k)
  between_known level Blank e d = tt
  between_known level LineFeed e d = tt
  between_known level Comment e d = tt
  between_known level Open e d = either t bs (ltb level max_level) (going between (level + 1)) (stopped at) tt tt
  between_known level Close e d = either t bs (eqb level 0) (stopped at) (going between (level - 1)) tt tt
  between_known level Letter e d = either t bs (eqb level 0) (stopped at) (going (in_name at 1) level) tt (begun (ap starts e))
  between_known level Digit e d = tt
  between_known level Dot e d = absurd (false≢true (sym d))
  between_known level Wrong e d = tt

  -- the byte b, which is no dot, in a run, where both scans agree on the bytes after it
  module _ (ih : (s : State) → Known t bs s → scan_from t bs s (at + 1) ≡ before.scan_from bs s (at + 1)) (d : is_dot (class_of b) ≡ false)
      (first len level : ℕ) (x : Underway t (b ∷ bs) first len) where
    -- the run with this byte
    abbrev more : State
    more = going (in_name first (len + 1)) level

    -- a byte that goes on the run: one more of the name, or the 65th, with which today's scan cannot end well
    run_on : goes_on (class_of b) ≡ true → (q : Bool) → ltb len max_name ≡ q
        → scan_from t bs more (at + 1) ≡ before.scan_from bs (cond q more (stopped first)) (at + 1)
    run_on g true e =
        ih more
        (record {
          bytes = x.bytes ++ b ∷ [];
          run = longer t x.bytes bs b first len x.run;
          so_far = rw d at (grown x.bytes len false x.so_far b (part-byte (class_of b) g));
          short = omega (arith, ltb-true len max_name e);
        })
    run_on g false e =
        doomed t (x.bytes ++ b ∷ []) bs first (len + 1) level (at + 1) (longer t x.bytes bs b first len x.run)
        (λ rest. ap is_name (append_assoc x.bytes (b ∷ []) rest)
        ∙ one-too-many x.bytes len false x.so_far b (ltb-false len max_name e) rest)
        ∙ sym (halted t bs first (at + 1))
        ∙ ih (stopped first) tt

    -- a byte that goes on the run, or one after it: then the run is a name
    in-run : (q : Bool) → goes_on (class_of b) ≡ q
        → scan_from t bs (step t (in_name first len) level at (class_of b)) (at + 1)
        ≡ before.scan_from bs (before.step (in_name first len) level at (class_of b)) (at + 1)
    in-run true g = rw (part-byte (class_of b) g, g) (run_on g (ltb len max_name) refl)
    in-run false g =
        rw (part-in-word (class_of b) d ∙ g, g, is_name_lem t (b ∷ bs) first len x)
        (ih (step_between level at (class_of b)) (between_known level (class_of b) refl d))

-- the bytes that are left: by induction over them
agree : (t bs : List ℕ) (s : State) (at : ℕ) → dotless bs ≡ true → drop at t ≡ bs → Known t bs s → scan_from t bs s at ≡ before.scan_from bs s at
unfolding scan_from before.scan_from
agree t [] (stopped place) at e h x = refl
agree t [] (going between level) at e h x = refl
agree t [] (going in_comment level) at e h x = refl
agree t [] (going (in_name first len) level) at e h x = rw (is_name_lem t [] first len x)
agree t (b ∷ bs) (stopped place) at e h x = refl
agree t (b ∷ bs) (going between level) at e h x =
    let p = first-and-rest b bs e in
    rw (class-as-before (class_of b) p.0)
    (agree t bs (step_between level at (class_of b)) (at + 1) p.1 (rest t bs b at h) (between_known t bs b at h level (class_of b) refl p.0))
agree t (b ∷ bs) (going in_comment level) at e h x =
    let p = first-and-rest b bs e in
    rw (class-as-before (class_of b) p.0)
    (agree t bs (going (comment_then (class_of b)) level) (at + 1) p.1 (rest t bs b at h) (comment-known t bs level (class_of b)))
agree t (b ∷ bs) (going (in_name first len) level) at e h x =
    let p = first-and-rest b bs e in
    rw (class-as-before (class_of b) p.0)
    (in-run t bs b at h (λ s y. agree t bs s (at + 1) p.1 (rest t bs b at h) y) p.0 first len level x (goes_on (class_of b)) refl)

-- the whole text
pub scan-as-before : (t : List ℕ) → dotless t ≡ true → scan t ≡ before.scan t
unfolding scan before.scan
scan-as-before t e = ap (cond (ltb max_text (length t)) (Err ScanFault.TooLong)) (agree t t (going between 0) 0 e refl tt)
