-- For the callers of `next`: the token that it answered lies ahead and within the text, and what the text reads as at the place
-- asked is that token before what the text reads as after it. Both by one induction over the bytes that are left. Assumes nothing.
use mathlib.Core.Path.{◌≡◌, refl, sym, ap, subst, ◌∙◌}
use mathlib.Core.Bool.{Bool, true, false}
use mathlib.Core.List.{List, [], ◌∷◌, ◌++◌}
use Prim.Native.Nat.{ℕ, ◌+◌, ◌≤◌, ◌<◌}
use native.Mathlib.Nat.{le_refl}
use native.Mathlib.Omega.{arith}
use lib.ListN.{length, drop}
use Rattle.lexer.specs.Class.{class_of, in_word, ends_comment}
use Rattle.lexer.specs.Scan.{Mode, between, in_comment, in_name, comment_then}
use Rattle.lexer.specs.Token.{between_then, own_token, mode_then, ending, tokens_from, tokens_at, first_of, token_at}
use Rattle.lexer.specs.Forms.{Frames, ended, step, build, frames_at}
use Rattle.lexer.specs.declared.ByteClass.{ByteClass}
use Rattle.lexer.specs.declared.ByteClass.TheVariants.{Blank, LineFeed, Comment, Open, Close, Letter, Digit, Dot, Wrong}
use Rattle.lexer.specs.declared.Token.{Token}
use Rattle.lexer.proofs.Ends.{rest, below}

-- a token at or after the place lo, and within the text
abbrev pub Ahead : List ℕ → ℕ → Token → Type 0
Ahead t lo (Token.Open p) = (lo ≤ p) × (p < length t)
Ahead t lo (Token.Close p) = (lo ≤ p) × (p < length t)
Ahead t lo (Token.Word s n) = (lo ≤ s) × (0 < n) × (s + n ≤ length t)
Ahead t lo Token.End = Unit {0}

-- the tokens, and the frames, from a place on, by the first token there
abbrev pub tokens_by : List ℕ → Token → List Token
tokens_by t (Token.Open p) = Token.Open p ∷ tokens_at t (p + 1)
tokens_by t (Token.Close p) = Token.Close p ∷ tokens_at t (p + 1)
tokens_by t (Token.Word s n) = Token.Word s n ∷ tokens_at t (s + n)
tokens_by t Token.End = []

abbrev pub frames_by : List ℕ → Token → Frames
frames_by t (Token.Open p) = step t (Token.Open p) (frames_at t (p + 1))
frames_by t (Token.Close p) = step t (Token.Close p) (frames_at t (p + 1))
frames_by t (Token.Word s n) = step t (Token.Word s n) (frames_at t (s + n))
frames_by t Token.End = record { here = ended; around = [] }

record Next (t : List ℕ) (lo : ℕ) (l : List Token) : Type 0 where
  pub tokens : l ≡ tokens_by t (first_of l)
  pub ahead : Ahead t lo (first_of l)

-- the mode at a place: a word's bytes are those before it
abbrev Reach : List ℕ → ℕ → Mode → ℕ → Type 0
Reach t lo between at = lo ≤ at
Reach t lo in_comment at = lo ≤ at
Reach t lo (in_name s n) at = (lo ≤ s) × (0 < n) × (s + n ≡ at) × (at ≤ length t)

comment-reach : (t : List ℕ) (lo at : ℕ) (k : ByteClass) → lo ≤ at → Reach t lo (comment_then k) at
comment-reach t lo at k h = go (ends_comment k) refl
  where
    go : (q : Bool) → ends_comment k ≡ q → Reach t lo (comment_then k) at
    go true e = rw e h
    go false e = rw e h

module _ (t bs : List ℕ) (lo at : ℕ) (l : at < length t) (r : tokens_at t (at + 1) ≡ tokens_from bs between (at + 1))
    (ih : (m : Mode) → Reach t lo m (at + 1) → Next t lo (tokens_from bs m (at + 1))) where
  between-byte : (k : ByteClass) → lo ≤ at → Next t lo (own_token at k ++ tokens_from bs (between_then at k) (at + 1))
  between-byte Blank h = ih between (omega arith)
  between-byte LineFeed h = ih between (omega arith)
  between-byte Comment h = ih in_comment (omega arith)
  between-byte Open h = record { tokens = ap (λ (x : List Token). Token.Open at ∷ x) (sym r); ahead = (h, l) }
  between-byte Close h = record { tokens = ap (λ (x : List Token). Token.Close at ∷ x) (sym r); ahead = (h, l) }
  between-byte Letter h = ih (in_name at 1) (omega arith)
  between-byte Digit h = ih (in_name at 1) (omega arith)
  between-byte Dot h = ih (in_name at 1) (omega arith)
  between-byte Wrong h = ih between (omega arith)

  word_byte : (s n : ℕ) (k : ByteClass) → Reach t lo (in_name s n) at
      → tokens_at t (s + n) ≡ own_token at k ++ tokens_from bs (between_then at k) (at + 1)
      → Next t lo (ending (in_name s n) at k ++ tokens_from bs (mode_then (in_name s n) at k) (at + 1))
  word_byte s n k h f = go (in_word k) refl
    where
      go : (q : Bool) → in_word k ≡ q → Next t lo (ending (in_name s n) at k ++ tokens_from bs (mode_then (in_name s n) at k) (at + 1))
      go true e = rw e (ih (in_name s (n + 1)) (omega arith))
      go false e = rw e (record { tokens = ap (λ (x : List Token). Token.Word s n ∷ x) (sym f); ahead = omega arith })

-- the tokens at a place, of the bytes that are left there
left_there : (t bs : List ℕ) (at i : ℕ) → drop at t ≡ bs → i ≡ at → tokens_at t i ≡ tokens_from bs between at
unfolding tokens_at
left_there t bs at i e f = rw (f, e)

from : (t bs : List ℕ) (lo : ℕ) (m : Mode) (at : ℕ) → drop at t ≡ bs → Reach t lo m at → Next t lo (tokens_from bs m at)
unfolding tokens_from
from t [] lo between at e h = record { tokens = refl; ahead = tt }
from t [] lo in_comment at e h = record { tokens = refl; ahead = tt }
from t [] lo (in_name s n) at e h =
    record { tokens = ap (λ (x : List Token). Token.Word s n ∷ x) (sym (left_there t [] at (s + n) e h.2)); ahead = omega arith }
from t (b ∷ bs) lo between at e h =
    between-byte t bs lo at (below t bs b at e) (left_there t bs (at + 1) (at + 1) (rest t bs b at e) refl)
    (λ m g. from t bs lo m (at + 1) (rest t bs b at e) g) (class_of b) h
from t (b ∷ bs) lo in_comment at e h =
    from t bs lo (comment_then (class_of b)) (at + 1) (rest t bs b at e) (comment-reach t lo (at + 1) (class_of b) (omega arith))
from t (b ∷ bs) lo (in_name s n) at e h =
    word_byte t bs lo at (below t bs b at e) (left_there t bs (at + 1) (at + 1) (rest t bs b at e) refl)
    (λ m g. from t bs lo m (at + 1) (rest t bs b at e) g) s n (class_of b) h (left_there t (b ∷ bs) at (s + n) e h.2)

next-at : (t : List ℕ) (at : ℕ) → Next t at (tokens_at t at)
unfolding tokens_at
next-at t at = from t (drop at t) at between at refl (le_refl at)

-- ---- the laws

pub token-ahead : (t : List ℕ) (at : ℕ) → Ahead t at (token_at t at)
unfolding token_at
token-ahead t at = (next-at t at).ahead

pub tokens-by : (t : List ℕ) (at : ℕ) → tokens_at t at ≡ tokens_by t (token_at t at)
unfolding token_at
tokens-by t at = (next-at t at).tokens

built : (t : List ℕ) (k : Token) → build t (tokens_by t k) ≡ frames_by t k
unfolding build frames_at
built t (Token.Open p) = refl
built t (Token.Close p) = refl
built t (Token.Word s n) = refl
built t Token.End = refl

pub frames-by : (t : List ℕ) (at : ℕ) → frames_at t at ≡ frames_by t (token_at t at)
unfolding frames_at
frames-by t at = ap (build t) (tokens-by t at) ∙ built t (token_at t at)

-- what a caller of `next` knows of the token k that it answered
pub record Seen (t : List ℕ) (at : ℕ) (k : Token) : Type 0 where
  pub tokens : tokens_at t at ≡ tokens_by t k
  pub frames : frames_at t at ≡ frames_by t k
  pub ahead : Ahead t at k

pub seen : (t : List ℕ) (at : ℕ) (r k : Token) → r ≡ token_at t at → r ≡ k → Seen t at k
seen t at r k e f =
    subst (λ (x : Token). Seen t at x) (sym e ∙ f)
    (record { tokens = tokens-by t at; frames = frames-by t at; ahead = token-ahead t at })
