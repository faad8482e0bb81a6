-- How the scan of a text goes on by a byte, over a comment, and at its end: what the loop of `scan` does, stated once.
-- Assumes nothing.
use Rattle.lexer.specs.declared.ScanFault.{ScanFault}
use Rattle.std.specs.Prelude.{Err}
use mathlib.Core.Path.{◌≡◌, refl, sym, ap, ◌∙◌}
use mathlib.Core.Bool.{Bool, true, false, not, ◌&&◌, cond, false≢true}
use mathlib.Core.List.{List, [], ◌∷◌, ◌++◌}
use Prim.Native.Nat.{ℕ, zero, suc, ◌+◌, ◌-◌, ◌≤◌, ◌<◌}
use native.Mathlib.Numerals.{add-one}
use native.Mathlib.Omega.{arith}
use borrow.Author.Tests.{lt-ltb, le-ltb}
use lib.Dec.{ltb, eqb}
use lib.ListN.{length, get_or, take, drop, drop_of_length-le}
use lib.Seq.{drop-cons, take-add, drop-drop}
use Rattle.lexer.specs.Class.{class_of, starts, is_dot, in_word, ends_comment, max_name, is_name}
use Rattle.lexer.specs.Scan.{max_text, max_level, Mode, between, in_comment, in_name, State, going, stopped, step_between, if_name, step_name, step, end_of, scan_from, scan}
use Rattle.lexer.specs.Answers.{word_goes_on, part_starts, bare_dot, name_goes_on, counted_from, comment_end, state_of}
use Rattle.lexer.specs.declared.ByteClass.{ByteClass}
use Rattle.lexer.specs.declared.ByteClass.TheVariants.{Blank, LineFeed, Comment, Open, Close, Letter, Digit, Dot, Wrong}
use Rattle.lexer.specs.declared.Step.{Step}
use Rattle.lexer.proofs.Ends.{bytes-there, over-comment, byte-there, byte-goes-on, name-word, name-over, name-not-bare}
use Rattle.lexer.proofs.Names.{fits, no_part, SoFar, letter-first, dot-first, grown, one-too-many, spoiled, finished}
use Rattle.lexer.proofs.Variants.{by-class}

-- a text that is too long is fault 1, and only such a text
pub too_long : (t : List ℕ) → max_text < length t → scan t ≡ (Err ScanFault.TooLong)
unfolding scan
too_long t h = rw (lt-ltb max_text (length t) h)

pub not-long : (t : List ℕ) → length t ≤ max_text → scan t ≡ scan_from t t (going between 0) 0
unfolding scan
not-long t h = rw (le-ltb max_text (length t) h)

-- a scan that has stopped says where
pub halted : (t bs : List ℕ) (place at : ℕ) → scan_from t bs (stopped place) at ≡ Err (ScanFault.Wrong place)
unfolding scan_from
halted t [] place at = refl
halted t (b ∷ bs) place at = refl

-- what ends a comment is a blank
blank-too : (level at : ℕ) (k : ByteClass) → ends_comment k ≡ true → step_between level at k ≡ going between level
blank-too level at Blank e = refl
blank-too level at LineFeed e = refl
blank-too level at Comment e = cc
blank-too level at Open e = cc
blank-too level at Close e = cc
blank-too level at Letter e = cc
blank-too level at Digit e = cc
blank-too level at Dot e = cc
blank-too level at Wrong e = cc

-- a run is over where it goes on no more, at another byte or at the end of the text: it is a name, or a fault at its first byte
run-over : (t bs : List ℕ) (first len level at : ℕ) → word_goes_on bs ≡ false
    → scan_from t bs (going (in_name first len) level) at ≡ if_name t first len (scan_from t bs (going between level) at) (Err (ScanFault.Wrong first))
unfolding scan_from
run-over t [] first len level at e = refl
run-over t (b ∷ bs) first len level at e = rw e (go (is_name (take len (drop first t))))
  where
    go : (q : Bool) → scan_from t bs (cond q (step_between level at (class_of b)) (stopped first)) (at + 1)
        ≡ cond q (scan_from t bs (step_between level at (class_of b)) (at + 1)) (Err (ScanFault.Wrong first))
    go true = refl
    go false = halted t bs first (at + 1)

-- the run as it is, of those that it may become
now : (t : List ℕ) (first len : ℕ) → ((j : ℕ) → is_name (take (len + j) (drop first t)) ≡ false) → is_name (take len (drop first t)) ≡ false
now t first len h =
    let e : len ≡ len + 0 = omega arith in
    ap (λ (n : ℕ). is_name (take n (drop first t))) e ∙ h 0

-- a run that is no name however many of the bytes to come it has is a fault at its first byte
doomed : (t bs : List ℕ) (first len level at : ℕ) → ((j : ℕ) → is_name (take (len + j) (drop first t)) ≡ false)
    → scan_from t bs (going (in_name first len) level) at ≡ Err (ScanFault.Wrong first)
unfolding scan_from
doomed t [] first len level at h = rw (now t first len h)
doomed t (b ∷ bs) first len level at h =
    go (in_word (class_of b)) refl
    (doomed t bs first (len + 1) level (at + 1)
    (λ j. let e : len + 1 + j ≡ len + (1 + j) = omega arith in ap (λ (n : ℕ). is_name (take n (drop first t))) e ∙ h (1 + j)))
  where
    go : (q : Bool) → in_word (class_of b) ≡ q → scan_from t bs (going (in_name first (len + 1)) level) (at + 1) ≡ Err (ScanFault.Wrong first)
        → scan_from t bs (step_name t first len level at (class_of b)) (at + 1) ≡ Err (ScanFault.Wrong first)
    go true e i = rw e i
    go false e i = rw (e, now t first len h) (halted t bs first (at + 1))

module _ (t : List ℕ) (at : ℕ) where
  by_byte : (mode : Mode) (level : ℕ) → at < length t
      → scan_from t (drop at t) (going mode level) at ≡ scan_from t (drop (at + 1) t) (step t mode level at (class_of (get_or t at 0))) (at + 1)
  unfolding scan_from
  by_byte mode level h =
      ap (λ (l : List ℕ). scan_from t l (going mode level) at) (drop-cons t at 0 h)
      ∙ ap (λ (n : ℕ). scan_from t (drop n t) (step t mode level at (class_of (get_or t at 0))) (at + 1)) (sym (add-one at))

  -- a turn of the loop: the scan that is left at a place is left at the next one
  pub turn : (mode : Mode) (level : ℕ) (k : ByteClass) (s : State) → at < length t → k ≡ class_of (get_or t at 0) → step t mode level at k ≡ s
      → scan_from t (drop at t) (going mode level) at ≡ scan t → scan_from t (drop (at + 1) t) s (at + 1) ≡ scan t
  turn mode level k s h e f g = cc (by_byte mode level h)

  -- a turn between names, by the step that the code took
  pub took : (level : ℕ) (k : ByteClass) (r s : Step) → at < length t → k ≡ class_of (get_or t at 0)
      → ((at : ℕ) → state_of level at r ≡ step_between level at k) → r ≡ s
      → scan_from t (drop at t) (going between level) at ≡ scan t → scan_from t (drop (at + 1) t) (state_of level at s) (at + 1) ≡ scan t
  took level k r s h e f g = turn between level k (state_of level at s) h e (sym (f at) ∙ ap (state_of level at) g)

  -- the end of the text between names
  pub last : (level : ℕ) → length t ≤ at → scan_from t (drop at t) (going between level) at ≡ end_of t between level at
  unfolding scan_from
  last level h = ap (λ (l : List ℕ). scan_from t l (going between level) at) (drop_of_length-le t h)

  -- a comment is passed over
  pub skip : (level : ℕ) → scan_from t (drop at t) (going in_comment level) at ≡ scan_from t (drop (comment_end t at) t) (going between level) (comment_end t at)
  unfolding scan_from
  skip level =
      over-comment (λ bs mode at. scan_from t bs (going mode level) at) (λ at. refl) (λ b bs at. refl)
      (λ b bs at e. ap (λ (s : State). scan_from t bs s (at + 1)) (blank-too level at (class_of b) e))
      t at

-- ---- the name loop

none-starts : (j : ℕ) (bs : List ℕ) → part_starts bs ≡ false → part_starts (take j bs) ≡ false
none-starts zero bs e = refl
none-starts (suc j) [] e = refl
none-starts (suc j) (b ∷ bs) e = e

-- a name under way at a place, whose first byte is at `first` and whose bytes are counted from `from` on: after a dot a part starts
pub record InName (t : List ℕ) (first from level at : ℕ) : Type 0 where
  pub fresh : Bool
  pub so_far : SoFar (take (at - first) (drop first t)) (at - from) fresh
  pub part : fresh ≡ true → part_starts (drop at t) ≡ true
  pub left : scan_from t (drop at t) (going (in_name first (at - first)) level) at ≡ scan t
  pub begun : first < at
  pub counted : from ≤ at
  pub short : at - from ≤ max_name
  pub inside : at ≤ length t

-- a dot that is not bare has a part after it
part-behind : (q s : Bool) → q && not s ≡ false → q ≡ true → s ≡ true
part-behind true true e f = refl
part-behind true false e f = cc
part-behind false true e f = refl
part-behind false false e f = f

bare : (q s : Bool) → q && not s ≡ true → (q ≡ true) × (s ≡ false)
bare true true e = (refl, sym e)
bare true false e = (refl, refl)
bare false true e = (e, sym e)
bare false false e = (e, refl)

module _ (t : List ℕ) (first from level at : ℕ) (x : InName t first from level at) (g : word_goes_on (drop at t) ≡ true) where
  abbrev b : ℕ
  b = get_or t at 0

  abbrev w : List ℕ
  w = take (at - first) (drop first t)

  there : at < length t
  there = byte-there t at g

  -- the run with the byte here and some of those to come
  cut : (j : ℕ) → take (at - first + 1 + j) (drop first t) ≡ w ++ b ∷ take j (drop (at + 1) t)
  cut j =
      let e : at - first + 1 + j ≡ at - first + suc j = omega arith in
      let f : first + (at - first) ≡ at = omega (arith, x.begun) in
      ap (λ (n : ℕ). take n (drop first t)) e
      ∙ take-add (at - first) (suc j) (drop first t)
      ∙ ap (λ (d : List ℕ). w ++ take (suc j) d) (drop-drop (at - first) first t ∙ ap (λ (i : ℕ). drop i t) f ∙ bytes-there t at there)

  further : scan_from t (drop (at + 1) t) (going (in_name first (at - first + 1)) level) (at + 1) ≡ scan t
  further = turn t at (in_name first (at - first)) level (class_of b) _ there refl (rw (byte-goes-on t at g)) x.left

  dooms : ((j : ℕ) → is_name (w ++ b ∷ take j (drop (at + 1) t)) ≡ false) → Err (ScanFault.Wrong first) ≡ scan t
  dooms h = sym (doomed t (drop (at + 1) t) first (at - first + 1) level (at + 1) (λ j. ap is_name (cut j) ∙ h j)) ∙ further

  -- the 65th byte
  long : max_name ≤ at - from → Err (ScanFault.Wrong first) ≡ scan t
  long h = dooms (λ j. one-too-many w (at - from) x.fresh x.so_far b h (take j (drop (at + 1) t)))

  dot-here : bare_dot (drop at t) ≡ is_dot (class_of b) && not (part_starts (drop (at + 1) t))
  dot-here = ap bare_dot (bytes-there t at there)

  -- a dot with no part after it
  bare-here : bare_dot (drop at t) ≡ true → Err (ScanFault.Wrong first) ≡ scan t
  bare-here e =
      let p = bare (is_dot (class_of b)) (part_starts (drop (at + 1) t)) (sym dot-here ∙ e) in
      dooms (λ j. spoiled w (at - from) x.fresh x.so_far b p.0 (take j (drop (at + 1) t)) (none-starts j (drop (at + 1) t) p.1))

  fits-here : fits x.fresh (class_of b) ≡ true
  fits-here = go x.fresh x.part
    where
      go : (q : Bool) → (q ≡ true → part_starts (drop at t) ≡ true) → fits q (class_of b) ≡ true
      go true p = sym (ap part_starts (bytes-there t at there)) ∙ p refl
      go false p = byte-goes-on t at g

  -- any other byte of a name
  more : at - from < max_name → bare_dot (drop at t) ≡ false → InName t first from level (at + 1)
  more h e =
      let n : at + 1 - first ≡ at - first + 1 = omega (arith, x.begun) in
      let m : at + 1 - from ≡ at - from + 1 = omega (arith, x.counted) in
      let l : at - first + 1 ≡ at - first + 1 + 0 = omega arith in
      let c : take (at - first + 1) (drop first t) ≡ w ++ b ∷ [] = ap (λ (k : ℕ). take k (drop first t)) l ∙ cut 0 in
      record {
        fresh = is_dot (class_of b);
        so_far = rw (n, m, c) (grown w (at - from) x.fresh x.so_far b fits-here);
        part = part-behind (is_dot (class_of b)) (part_starts (drop (at + 1) t)) (sym dot-here ∙ e);
        left = rw n further;
        begun = omega (arith, x.begun);
        counted = omega (arith, x.counted);
        short = omega arith;
        inside = omega (arith, there);
      }

start-goes : (k : ByteClass) → starts k ≡ true → in_word k ≡ true
start-goes k e = rw e at (by-class (λ k. starts k && in_word k) starts refl k)

part-goes : (bs : List ℕ) → part_starts bs ≡ true → word_goes_on bs ≡ true
part-goes [] e = e
part-goes (b ∷ bs) e = start-goes (class_of b) e

module _ (t : List ℕ) (first from level at : ℕ) (x : InName t first from level at) where
  -- where the name goes on: the 65th byte, or one that fits
  pub overlong : name_goes_on (drop at t) ≡ true → max_name ≤ at - from → Err (ScanFault.Wrong first) ≡ scan t
  overlong g h = long t first from level at x (name-word (drop at t) g) h

  pub goes : name_goes_on (drop at t) ≡ true → at - from < max_name → InName t first from level (at + 1)
  goes g h = more t first from level at x (name-word (drop at t) g) h (name-not-bare (drop at t) g)

  -- where it goes on no more: a dot with no part after it spoils the run, or the run is over and is a name
  pub no-part-behind : name_goes_on (drop at t) ≡ false → bare_dot (drop at t) ≡ true → Err (ScanFault.Wrong first) ≡ scan t
  no-part-behind g e = bare-here t first from level at x (name-over (drop at t) g ∙ e) e

  pub leaves : name_goes_on (drop at t) ≡ false → bare_dot (drop at t) ≡ false → scan_from t (drop at t) (going between level) at ≡ scan t
  leaves g e =
      let o : word_goes_on (drop at t) ≡ false = name-over (drop at t) g ∙ e in
      let n : is_name (take (at - first) (drop first t)) ≡ true
      = finished (take (at - first) (drop first t)) (at - from) x.fresh x.so_far x.short ∙ go x.fresh x.part o in
      sym (rw n at (run-over t (drop at t) first (at - first) level at o)) ∙ x.left
    where
      go : (q : Bool) → (q ≡ true → part_starts (drop at t) ≡ true) → word_goes_on (drop at t) ≡ false → not q ≡ true
      go true p o = sym o ∙ part-goes (drop at t) (p refl)
      go false p o = refl

-- ---- the first byte of a name

-- whether a state is that of a name
abbrev naming : State → Bool
naming (going between level) = false
naming (going in_comment level) = false
naming (going (in_name first len) level) = true
naming (stopped place) = false

neither : (q : Bool) (a c : State) → naming a ≡ false → naming c ≡ false → naming (cond q a c) ≡ false
neither true a c e f = e
neither false a c e f = f

-- what leads into a name and is no dot starts a part
begins : (level at : ℕ) (k : ByteClass) → naming (step_between level at k) ≡ true → is_dot k ≡ false → starts k ≡ true
begins level at Blank e f = e
begins level at LineFeed e f = e
begins level at Comment e f = e
begins level at Open e f = sym (neither (ltb level max_level) (going between (level + 1)) (stopped at) refl refl) ∙ e
begins level at Close e f = sym (neither (eqb level 0) (stopped at) (going between (level - 1)) refl refl) ∙ e
begins level at Letter e f = refl
begins level at Digit e f = e
begins level at Dot e f = absurd (false≢true (sym f))
begins level at Wrong e f = e

module _ (t : List ℕ) (at level : ℕ) (h : at < length t) (i : scan_from t (drop (at + 1) t) (going (in_name at 1) level) (at + 1) ≡ scan t) where
  first-dot : bare_dot (drop at t) ≡ is_dot (class_of (get_or t at 0)) && not (part_starts (drop (at + 1) t))
  first-dot = ap bare_dot (bytes-there t at h)

  -- a dot in front with no part after it
  pub bare-first : bare_dot (drop at t) ≡ true → Err (ScanFault.Wrong at) ≡ scan t
  bare-first e =
      let p = bare (is_dot (class_of (get_or t at 0))) (part_starts (drop (at + 1) t)) (sym first-dot ∙ e) in
      sym
      (doomed t (drop (at + 1) t) at 1 level (at + 1)
      (λ j.
      let n : 1 + j ≡ suc j = omega arith in
      ap (λ (m : ℕ). is_name (take m (drop at t))) n
      ∙ ap (λ (d : List ℕ). is_name (take (suc j) d)) (bytes-there t at h)
      ∙ (dot-first (get_or t at 0) p.0).with_rest (take j (drop (at + 1) t))
      ∙ rw (no_part (take j (drop (at + 1) t)) (none-starts j (drop (at + 1) t) p.1))))
      ∙ i

  -- any other first byte
  pub starts-name : (from : ℕ) (k : ByteClass) → k ≡ class_of (get_or t at 0) → going (in_name at 1) level ≡ step_between level at k
      → from ≡ counted_from (drop at t) at → bare_dot (drop at t) ≡ false → InName t at from level (at + 1)
  starts-name from k e s f d = go (is_dot (class_of (get_or t at 0))) refl
    where
      one : at + 1 - at ≡ 1
      one = omega arith

      run : take 1 (drop at t) ≡ get_or t at 0 ∷ []
      run = ap (take 1) (bytes-there t at h)

      leads : naming (step_between level at (class_of (get_or t at 0))) ≡ true
      leads = ap naming (ap (step_between level at) (sym e) ∙ sym s)

      counts : from ≡ cond (is_dot (class_of (get_or t at 0))) (at + 1) at
      counts = f ∙ ap (λ (l : List ℕ). counted_from l at) (bytes-there t at h)

      go : (q : Bool) → is_dot (class_of (get_or t at 0)) ≡ q → InName t at from level (at + 1)
      go true q =
          let c : from ≡ at + 1 = rw q at counts in
          let z : at + 1 - from ≡ 0 = omega (arith, c) in
          record {
            fresh = true;
            so_far = rw (one, run, z) (dot-first (get_or t at 0) q);
            part = λ v. part-behind (is_dot (class_of (get_or t at 0))) (part_starts (drop (at + 1) t)) (sym first-dot ∙ d) q;
            left = rw one i;
            begun = omega arith;
            counted = omega (arith, c);
            short = omega (arith, z);
            inside = omega (arith, h);
          }
      go false q =
          let c : from ≡ at = rw q at counts in
          let z : at + 1 - from ≡ 1 = omega (arith, c) in
          record {
            fresh = false;
            so_far = rw (one, run, z) (letter-first (get_or t at 0) (begins level at (class_of (get_or t at 0)) leads q));
            part = λ v. absurd (false≢true v);
            left = rw one i;
            begun = omega arith;
            counted = omega (arith, c);
            short = omega (arith, z);
            inside = omega (arith, h);
          }
