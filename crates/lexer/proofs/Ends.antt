-- The first place of a text whose byte's class passes a test: how a loop finds it, and where it lies. Where words and names go on, and dots.
-- Assumes nothing.
use mathlib.Core.Path.{◌≡◌, refl, sym, ap, ◌∙◌}
use mathlib.Core.Bool.{Bool, true, false, not, ◌||◌, ◌&&◌, cond}
use mathlib.Core.List.{List, [], ◌∷◌}
use Prim.Native.Nat.{ℕ, suc, ◌+◌, ◌≤◌, ◌<◌}
use native.Mathlib.Nat.{le_refl}
use native.Mathlib.Numerals.{add-one}
use native.Mathlib.Omega.{arith}
use lib.ListN.{length, get_or, drop, length-drop, drop_of_length-le}
use lib.Seq.{drop-cons, drop-drop}
use Rattle.lexer.specs.Class.{class_of, starts, goes_on, is_dot, in_word, ends_comment}
use Rattle.lexer.specs.Scan.{Mode, between, in_comment, comment_then}
use Rattle.lexer.specs.Answers.{word_goes_on, part_starts, bare_dot, name_goes_on, counted_from, first_from, ends_word}
use Rattle.lexer.specs.declared.ByteClass.{ByteClass}
use Rattle.lexer.specs.declared.ByteClass.TheVariants.{Blank, LineFeed, Comment, Open, Close, Letter, Digit, Dot, Wrong}

-- what a test of a class answered
pub told : {j k : ByteClass} {r v : Bool} (test : ByteClass → Bool) → k ≡ j → r ≡ test k → r ≡ v → test j ≡ v
told test e f g = ap test (sym e) ∙ sym f ∙ g

-- the bytes after the first of those that are left
pub rest : {A : Type 0} (t bs : List A) (b : A) (at : ℕ) → drop at t ≡ b ∷ bs → drop (at + 1) t ≡ bs
rest t bs b at e = sym (drop-drop 1 at t) ∙ ap (drop 1) e

-- where a byte is left there is one
pub below : (t bs : List ℕ) (b at : ℕ) → drop at t ≡ b ∷ bs → at < length t
below t bs b at e = omega (arith, length-drop at t, ap length e)

module _ (t : List ℕ) (test : ByteClass → Bool) (at : ℕ) where
  step : (b : Bool) → test (class_of (get_or t at 0)) ≡ b → at < length t
      → first_from (drop at t) test at ≡ elim b [ true ↦ at | false ↦ first_from (drop (at + 1) t) test (at + 1) ]
  unfolding first_from
  step b e h =
      ap (λ (l : List ℕ). first_from l test at) (drop-cons t at 0 h)
      ∙ ap (λ (q : Bool). elim q [ true ↦ at | false ↦ first_from (drop (suc at) t) test (at + 1) ]) e
      ∙ ap (λ (n : ℕ). elim b [ true ↦ at | false ↦ first_from (drop n t) test (at + 1) ]) (sym (add-one at))

  pub found : test (class_of (get_or t at 0)) ≡ true → at < length t → first_from (drop at t) test at ≡ at
  found e h = step true e h

  pub further : test (class_of (get_or t at 0)) ≡ false → at < length t → first_from (drop at t) test at ≡ first_from (drop (at + 1) t) test (at + 1)
  further e h = step false e h

  pub none_left : length t ≤ at → first_from (drop at t) test at ≡ at
  unfolding first_from
  none_left h = ap (λ (l : List ℕ). first_from l test at) (drop_of_length-le t h)

-- it lies at or after the place where it is looked for, and at most at the end
pub lies : (bs : List ℕ) (test : ByteClass → Bool) (at : ℕ) → (at ≤ first_from bs test at) × (first_from bs test at ≤ at + length bs)
unfolding first_from
lies [] test at = (le_refl at, omega arith)
lies (b ∷ bs) test at = go (test (class_of b)) (lies bs test (at + 1))
  where
    go : (q : Bool) → (at + 1 ≤ first_from bs test (at + 1)) × (first_from bs test (at + 1) ≤ at + 1 + length bs)
        → (at ≤ elim q [ true ↦ at | false ↦ first_from bs test (at + 1) ]) × (elim q [ true ↦ at | false ↦ first_from bs test (at + 1) ] ≤ at + suc (length bs))
    go true i = (le_refl at, omega arith)
    go false i = (omega arith, omega arith)

pub ahead : (t : List ℕ) (test : ByteClass → Bool) (at : ℕ) → at ≤ first_from (drop at t) test at
ahead t test at = (lies (drop at t) test at).0

pub within : (t : List ℕ) (test : ByteClass → Bool) (at : ℕ) → at ≤ length t → first_from (drop at t) test at ≤ length t
within t test at h = omega (arith, (lies (drop at t) test at).1, length-drop at t)

-- ---- where a word goes on, and where it ends

pub word-ends : (bs : List ℕ) (at : ℕ) → word_goes_on bs ≡ false → first_from bs ends_word at ≡ at
unfolding first_from
word-ends [] at e = refl
word-ends (b ∷ bs) at e = ap (λ (q : Bool). elim (not q) [ true ↦ at | false ↦ first_from bs ends_word (at + 1) ]) e

module _ (t : List ℕ) (at : ℕ) where
  pub at_byte : at < length t → word_goes_on (drop at t) ≡ in_word (class_of (get_or t at 0))
  at_byte h = ap word_goes_on (drop-cons t at 0 h)

  pub at-end : length t ≤ at → word_goes_on (drop at t) ≡ false
  at-end h = ap word_goes_on (drop_of_length-le t h)

  -- where a word goes on there is a byte
  pub byte-there : word_goes_on (drop at t) ≡ true → at < length t
  byte-there = go (drop at t) refl
    where
      go : (bs : List ℕ) → drop at t ≡ bs → word_goes_on bs ≡ true → at < length t
      go [] e f =
          let z : ◌≡◌ {A = ℕ} 0 1 = cc in
          absurd (omega arith)
      go (b ∷ bs) e f = below t bs b at e

  -- and it goes on the word
  pub byte-goes-on : word_goes_on (drop at t) ≡ true → in_word (class_of (get_or t at 0)) ≡ true
  byte-goes-on e = sym (at_byte (byte-there e)) ∙ e

  pub word-goes-on : word_goes_on (drop at t) ≡ true → first_from (drop at t) ends_word at ≡ first_from (drop (at + 1) t) ends_word (at + 1)
  word-goes-on e = further t ends_word at (ap not (byte-goes-on e)) (byte-there e)

-- ---- dots, and the parts of names after them

-- the bytes from a place on, by the first of them
pub bytes-there : (t : List ℕ) (at : ℕ) → at < length t → drop at t ≡ get_or t at 0 ∷ drop (at + 1) t
bytes-there t at h = drop-cons t at 0 h ∙ ap (λ (n : ℕ). get_or t at 0 ∷ drop n t) (sym (add-one at))

module _ (t : List ℕ) (at : ℕ) where
  pub part-at-byte : at < length t → part_starts (drop at t) ≡ starts (class_of (get_or t at 0))
  part-at-byte h = ap part_starts (bytes-there t at h)

  pub no-part-at-end : length t ≤ at → part_starts (drop at t) ≡ false
  no-part-at-end h = ap part_starts (drop_of_length-le t h)

  dot-at-byte : (q : Bool) → at < length t → is_dot (class_of (get_or t at 0)) ≡ q → bare_dot (drop at t) ≡ q && not (part_starts (drop (at + 1) t))
  dot-at-byte q h e = ap bare_dot (bytes-there t at h) ∙ ap (λ (x : Bool). x && not (part_starts (drop (at + 1) t))) e

  pub dot-then : at < length t → is_dot (class_of (get_or t at 0)) ≡ true → bare_dot (drop at t) ≡ not (part_starts (drop (at + 1) t))
  dot-then h e = dot-at-byte true h e

  pub no-dot : at < length t → is_dot (class_of (get_or t at 0)) ≡ false → bare_dot (drop at t) ≡ false
  no-dot h e = dot-at-byte false h e

  pub no-dot-at-end : length t ≤ at → bare_dot (drop at t) ≡ false
  no-dot-at-end h = ap bare_dot (drop_of_length-le t h)

  pub counted-at-byte : (q : Bool) → at < length t → is_dot (class_of (get_or t at 0)) ≡ q → counted_from (drop at t) at ≡ cond q (at + 1) at
  counted-at-byte q h e = ap (λ (l : List ℕ). counted_from l at) (bytes-there t at h) ∙ ap (λ (x : Bool). cond x (at + 1) at) e

  pub counted-at-end : length t ≤ at → counted_from (drop at t) at ≡ at
  counted-at-end h = ap (λ (l : List ℕ). counted_from l at) (drop_of_length-le t h)

-- at most one byte in front is not counted
pub counted-most : (bs : List ℕ) (at : ℕ) → counted_from bs at ≤ at + 1
counted-most [] at = omega arith
counted-most (b ∷ bs) at = go (is_dot (class_of b))
  where
    go : (q : Bool) → cond q (at + 1) at ≤ at + 1
    go true = omega arith
    go false = omega arith

-- ---- where a name goes on

module _ (t : List ℕ) (at : ℕ) where
  name-at-byte : (p q : Bool) → at < length t → goes_on (class_of (get_or t at 0)) ≡ p → is_dot (class_of (get_or t at 0)) ≡ q
      → name_goes_on (drop at t) ≡ p || (q && part_starts (drop (at + 1) t))
  name-at-byte p q h e f = ap name_goes_on (bytes-there t at h) ∙ rw (e, f)

  pub within-part : at < length t → goes_on (class_of (get_or t at 0)) ≡ true → name_goes_on (drop at t) ≡ true
  within-part h e = name-at-byte true (is_dot (class_of (get_or t at 0))) h e refl

  pub over-dot : at < length t → goes_on (class_of (get_or t at 0)) ≡ false → is_dot (class_of (get_or t at 0)) ≡ true
      → name_goes_on (drop at t) ≡ part_starts (drop (at + 1) t)
  over-dot h e f = name-at-byte false true h e f

  pub other_byte : at < length t → goes_on (class_of (get_or t at 0)) ≡ false → is_dot (class_of (get_or t at 0)) ≡ false → name_goes_on (drop at t) ≡ false
  other_byte h e f = name-at-byte false false h e f

  pub no-name-at-end : length t ≤ at → name_goes_on (drop at t) ≡ false
  no-name-at-end h = ap name_goes_on (drop_of_length-le t h)

-- a word goes on where a name does or a bare dot stands, and these are never one
either : (k : ByteClass) (s : Bool) → in_word k ≡ (goes_on k || (is_dot k && s)) || (is_dot k && not s)
either Blank s = refl
either LineFeed s = refl
either Comment s = refl
either Open s = refl
either Close s = refl
either Letter s = refl
either Digit s = refl
either Dot true = refl
either Dot false = refl
either Wrong s = refl

not-both : (k : ByteClass) (s : Bool) → goes_on k || (is_dot k && s) ≡ true → is_dot k && not s ≡ false
not-both Blank s e = refl
not-both LineFeed s e = refl
not-both Comment s e = refl
not-both Open s e = refl
not-both Close s e = refl
not-both Letter s e = refl
not-both Digit s e = refl
not-both Dot s e = ap not e
not-both Wrong s e = refl

by_name : (bs : List ℕ) (q : Bool) → name_goes_on bs ≡ q → word_goes_on bs ≡ q || bare_dot bs
by_name [] q e = ap (λ (x : Bool). x || false) e
by_name (b ∷ bs) q e = either (class_of b) (part_starts bs) ∙ ap (λ (x : Bool). x || bare_dot (b ∷ bs)) e

pub name-word : (bs : List ℕ) → name_goes_on bs ≡ true → word_goes_on bs ≡ true
name-word bs e = by_name bs true e

pub name-over : (bs : List ℕ) → name_goes_on bs ≡ false → word_goes_on bs ≡ bare_dot bs
name-over bs e = by_name bs false e

pub name-not-bare : (bs : List ℕ) → name_goes_on bs ≡ true → bare_dot bs ≡ false
name-not-bare [] e = refl
name-not-bare (b ∷ bs) e = not-both (class_of b) (part_starts bs) e

-- where a name goes on there is a byte
pub name-there : (t : List ℕ) (at : ℕ) → name_goes_on (drop at t) ≡ true → at < length t
name-there t at e = byte-there t at (name-word (drop at t) e)

-- ---- whatever is run over the bytes of a text passes over a comment: one law for the scan and for the tokens

module _ {R : Type 0} (run : List ℕ → Mode → ℕ → R)
    (at-end : (at : ℕ) → run [] in_comment at ≡ run [] between at)
    (goes : (b : ℕ) (bs : List ℕ) (at : ℕ) → run (b ∷ bs) in_comment at ≡ run bs (comment_then (class_of b)) (at + 1))
    (blank : (b : ℕ) (bs : List ℕ) (at : ℕ) → ends_comment (class_of b) ≡ true → run (b ∷ bs) between at ≡ run bs between (at + 1)) where
  passed : (t bs : List ℕ) (at : ℕ) → drop at t ≡ bs
      → run bs in_comment at ≡ run (drop (first_from bs ends_comment at) t) between (first_from bs ends_comment at)
  unfolding first_from
  passed t [] at e = rw e (at-end at)
  passed t (b ∷ bs) at e = go (ends_comment (class_of b)) refl (passed t bs (at + 1) (rest t bs b at e))
    where
      go : (q : Bool) → ends_comment (class_of b) ≡ q
          → run bs in_comment (at + 1) ≡ run (drop (first_from bs ends_comment (at + 1)) t) between (first_from bs ends_comment (at + 1))
          → run (b ∷ bs) in_comment at
          ≡ run (drop (elim (ends_comment (class_of b)) [ true ↦ at | false ↦ first_from bs ends_comment (at + 1) ]) t) between
          (elim (ends_comment (class_of b)) [ true ↦ at | false ↦ first_from bs ends_comment (at + 1) ])
      go true f i = rw (goes, f, e) (sym (blank b bs at f))
      go false f i = rw (goes, f) i

  pub over-comment : (t : List ℕ) (at : ℕ)
      → run (drop at t) in_comment at ≡ run (drop (first_from (drop at t) ends_comment at) t) between (first_from (drop at t) ends_comment at)
  over-comment t at = passed t (drop at t) at refl
