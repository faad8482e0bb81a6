-- The place of a statement, of a block, and of every part in them, is that of an opening parenthesis of the text. By induction on the bytes, then on the
-- tokens, then on the rows. Assumes nothing.
use Prim.Native.Nat.{ℕ, suc, ◌+◌, ◌≤◌, ◌<◌}
use Prim.Native.Char.{code}
use native.Mathlib.Nat.{add-zero, zero-add, add_assoc}
use native.Mathlib.Numerals.{one-add}
use native.Mathlib.Omega.{arith}
use mathlib.Core.Path.{◌≡◌, refl, sym, ap, ◌∙◌, subst}
use mathlib.Core.Bool.{Bool, true, false, cond, false≢true}
use mathlib.Core.List.{List, [], ◌∷◌}
use mathlib.Core.Option.{Option, none, some}
use lib.ListN.{get_or, length, get_or-eq_default}
use borrow.Author.Tests.{eqb-true, leb-true, leb-false}
use lib.Dec.{leb}
use Rattle.lexer.specs.declared.ByteClass.{ByteClass}
use Rattle.lexer.specs.declared.ByteClass.TheVariants.{Blank, LineFeed, Comment, Open, Close, Letter, Digit, Dot, Wrong}
use Rattle.lexer.specs.declared.Token.{Token}
use Rattle.lexer.specs.Class.{class_of, in_word, is, is_blank, is_letter, is_digit}
use Rattle.lexer.specs.Scan.{Mode, between, in_comment, in_name}
use Rattle.lexer.specs.Token.{own_token, mode_then, ending, ending_last, tokens_from, tokens_at}
use Rattle.lexer.specs.Forms.{Forms, closed, ended, word, part, Frames, head, tail, step, build, frames_at, forms_of}
use Rattle.policy.specs.Basics.{Name, All}
use Rattle.policy.specs.Grammar.{block_in}
use Rattle.policy.specs.Scopes.{Scoped, scoped_in}
use Rattle.policy.proofs.Lists.{all_append, all_right}
use Rattle.reading_laws.proofs.ReadThen.{within}
use Rattle.reading_laws.proofs.FaultOrder.{RefusedFor, too_long, wrong_byte, at-statement}

-- the byte of the class: none of the other tests gives it
abbrev is_open : ByteClass → Bool
is_open Blank = false
is_open LineFeed = false
is_open Comment = false
is_open Open = true
is_open Close = false
is_open Letter = false
is_open Digit = false
is_open Dot = false
is_open Wrong = false

past : (c : Bool) (x y : ByteClass) → is_open x ≡ false → is_open (cond c x y) ≡ true → is_open y ≡ true
past true x y e h = absurd (false≢true (sym e ∙ h))
past false x y e h = h

open-byte : (b : ℕ) → class_of b ≡ Open → b ≡ code "("
unfolding class_of
open-byte b h = go (is "(" b) refl (past (is ";" b) Comment _ refl (past (is_blank b) Blank _ refl (ap is_open h)))
  where
    rest : ByteClass
    rest = cond (is ")" b) Close (cond (is_letter b) Letter (cond (is_digit b) Digit (cond (is "." b) Dot (cond (is "\n" b) LineFeed Wrong))))

    go : (c : Bool) → is "(" b ≡ c → is_open (cond c Open rest) ≡ true → b ≡ code "("
    go true e k = eqb-true b (code "(") e
    go false e k =
        absurd (false≢true (past (is "\n" b) LineFeed Wrong refl
        (past (is "." b) Dot _ refl (past (is_digit b) Digit _ refl (past (is_letter b) Letter _ refl (past (is ")" b) Close _ refl k))))))

module _ (text : List ℕ) where
  -- an opening parenthesis is at the place; a token, and the parts of a row, are at such places
  abbrev pub OpensAt : ℕ → Type 0
  OpensAt at = get_or text at 0 ≡ code "("

  abbrev TokenOpens : Token → Type 0
  TokenOpens (Token.Open at) = OpensAt at
  TokenOpens (Token.Close at) = Unit {0}
  TokenOpens (Token.Word at n) = Unit {0}
  TokenOpens Token.End = Unit {0}

  abbrev pub PartsOpen : Forms → Type 0
  PartsOpen closed = Unit {0}
  PartsOpen ended = Unit {0}
  PartsOpen (word at w r) = PartsOpen r
  PartsOpen (part at i r) = OpensAt at × PartsOpen i × PartsOpen r

  own-opens : (at : ℕ) (k : ByteClass) → class_of (get_or text at 0) ≡ k → All TokenOpens (own_token at k)
  own-opens at Blank e = tt
  own-opens at LineFeed e = tt
  own-opens at Comment e = tt
  own-opens at Open e = (open-byte (get_or text at 0) e, tt)
  own-opens at Close e = (tt, tt)
  own-opens at Letter e = tt
  own-opens at Digit e = tt
  own-opens at Dot e = tt
  own-opens at Wrong e = tt

  ending-opens : (m : Mode) (at : ℕ) (k : ByteClass) → class_of (get_or text at 0) ≡ k → All TokenOpens (ending m at k)
  ending-opens between at k e = own-opens at k e
  ending-opens in_comment at k e = tt
  ending-opens (in_name first len) at k e = go (in_word k)
    where
      go : (b : Bool) → All TokenOpens (cond b [] (Token.Word first len ∷ own_token at k))
      go true = tt
      go false = (tt, own-opens at k e)

  last-opens : (m : Mode) → All TokenOpens (ending_last m)
  last-opens between = tt
  last-opens in_comment = tt
  last-opens (in_name first len) = (tt, tt)

  -- the bytes that are left are those of the text from a place on
  tokens-open : (bs : List ℕ) (m : Mode) (at : ℕ) → ((k : ℕ) → get_or text (at + k) 0 ≡ get_or bs k 0) → All TokenOpens (tokens_from bs m at)
  unfolding tokens_from
  tokens-open [] m at h = last-opens m
  tokens-open (b ∷ bs) m at h =
      all_append TokenOpens (ending m at (class_of b)) _ (ending-opens m at (class_of b) (ap class_of (rw add-zero at (h 0))))
      (tokens-open bs (mode_then m at (class_of b)) (at + 1) λ k. rw (add_assoc at 1 k, one-add) (h (suc k)))

  abbrev FramesOpen : Frames → Type 0
  FramesOpen r = PartsOpen r.here × All PartsOpen r.around

  head-open : (fs : List Forms) → All PartsOpen fs → PartsOpen (head fs)
  head-open [] h = tt
  head-open (f ∷ fs) h = h.0

  tail-open : (fs : List Forms) → All PartsOpen fs → All PartsOpen (tail fs)
  tail-open [] h = tt
  tail-open (f ∷ fs) h = h.1

  step-opens : (k : Token) (r : Frames) → TokenOpens k → FramesOpen r → FramesOpen (step text k r)
  step-opens (Token.Open at) r o h = ((o, h.0, head-open r.around h.1), tail-open r.around h.1)
  step-opens (Token.Close at) r o h = (tt, h)
  step-opens (Token.Word at n) r o h = h
  step-opens Token.End r o h = h

  build-opens : (ks : List Token) → All TokenOpens ks → FramesOpen (build text ks)
  unfolding build
  build-opens [] h = (tt, tt)
  build-opens (k ∷ ks) h = step-opens k (build text ks) h.0 (build-opens ks h.1)

  pub forms-open : PartsOpen (forms_of text)
  unfolding forms_of frames_at tokens_at
  forms-open = (build-opens _ (tokens-open text between 0 λ k. rw zero-add)).0

  -- so are the places of the statements and blocks of a row
  abbrev pub ScopedOpens : Scoped → Type 0
  ScopedOpens x = OpensAt x.place

  pub scoped-open : (path : List Name) (f : Forms) → PartsOpen f → All ScopedOpens (scoped_in path f)
  unfolding scoped_in
  scoped-open path closed h = tt
  scoped-open path ended h = tt
  scoped-open path (word at w r) h = scoped-open path r h
  scoped-open path (part at i r) h =
      (h.0, all_append ScopedOpens (within path i) (scoped_in path r) (inside (block_in i) (λ b. scoped-open (b ∷ path) i h.1)) (scoped-open path r h.2))
    where
      inside : (o : Option Name) → ((b : Name) → All ScopedOpens (scoped_in (b ∷ path) i)) → All ScopedOpens (elim o [ none ↦ [] | some b ↦ scoped_in (b ∷ path) i ])
      inside none k = tt
      inside (some b) k = k b

  -- the fault of a statement or a block is placed at an opening parenthesis
  pub fault-place : (n at : ℕ) → 3 ≤ n → RefusedFor text n at → OpensAt at
  fault-place n at l (too_long e) = absurd (omega arith)
  fault-place n at l (wrong_byte b e) = absurd (omega arith)
  fault-place n at l (at-statement m b e s) =
      subst OpensAt s.place (all_right ScopedOpens s.before (s.here ∷ s.rest) (subst (All ScopedOpens) s.row (scoped-open [] (forms_of text) forms-open))).0

-- an opening parenthesis is at a place of the text
pub opens-within : (text : List ℕ) (at : ℕ) → OpensAt text at → at < length text
opens-within text at h = go (leb (length text) at) refl
  where
    go : (b : Bool) → leb (length text) at ≡ b → at < length text
    go false e = leb-false (length text) at e
    go true e = absurd (omega (arith, h, get_or-eq_default text 0 (leb-true (length text) at e)))
