-- A text after other bytes, read from its own first byte on: it reads as it does by itself, with its places moved by the length of those bytes. By
-- induction over its bytes, and over its tokens. Assumes nothing.
use Prim.Native.Nat.{ℕ, ◌+◌}
use native.Mathlib.Omega.{arith}
use mathlib.Core.Path.{◌≡◌, refl, sym, ap, ◌∙◌}
use mathlib.Core.Bool.{Bool, true, false, cond}
use mathlib.Core.List.{List, [], ◌∷◌, ◌++◌}
use lib.ListN.{length}
use lib.Seq.{drop-append_seam, drop-append-add}
use Rattle.lexer.specs.declared.ByteClass.{ByteClass}
use Rattle.lexer.specs.declared.ByteClass.TheVariants.{Blank, LineFeed, Comment, Open, Close, Letter, Digit, Dot, Wrong}
use Rattle.lexer.specs.declared.Token.{Token}
use Rattle.lexer.specs.Class.{class_of, in_word, ends_comment}
use Rattle.lexer.specs.Scan.{Mode, between, in_comment, in_name, comment_then}
use Rattle.lexer.specs.Token.{between_then, own_token, mode_then, ending, tokens_from, tokens_at}
use Rattle.lexer.specs.Forms.{Forms, Frames, head, tail, step, build, frames_at, forms_of}
use Rattle.policy.specs.Basics.{each}
use Rattle.policy.proofs.Lists.{each_append}
use Rattle.reading_laws.proofs.Placed.{placed}

module _ (n : ℕ) where
  -- TOKENS
  abbrev moved_token : Token → Token
  moved_token (Token.Open p) = Token.Open (n + p)
  moved_token (Token.Close p) = Token.Close (n + p)
  moved_token (Token.Word s k) = Token.Word (n + s) k
  moved_token Token.End = Token.End

  abbrev moved_mode : Mode → Mode
  moved_mode between = between
  moved_mode in_comment = in_comment
  moved_mode (in_name s k) = in_name (n + s) k

  own-moved : (at : ℕ) (k : ByteClass) → own_token (n + at) k ≡ each moved_token (own_token at k)
  unfolding each
  own-moved at Blank = refl
  own-moved at LineFeed = refl
  own-moved at Comment = refl
  own-moved at Open = refl
  own-moved at Close = refl
  own-moved at Letter = refl
  own-moved at Digit = refl
  own-moved at Dot = refl
  own-moved at Wrong = refl

  between-moved : (at : ℕ) (k : ByteClass) → between_then (n + at) k ≡ moved_mode (between_then at k)
  between-moved at Blank = refl
  between-moved at LineFeed = refl
  between-moved at Comment = refl
  between-moved at Open = refl
  between-moved at Close = refl
  between-moved at Letter = refl
  between-moved at Digit = refl
  between-moved at Dot = refl
  between-moved at Wrong = refl

  comment-moved : (k : ByteClass) → comment_then k ≡ moved_mode (comment_then k)
  comment-moved k = go (ends_comment k)
    where
      go : (q : Bool) → cond q between in_comment ≡ moved_mode (cond q between in_comment)
      go true = refl
      go false = refl

  ending-moved : (m : Mode) (at : ℕ) (k : ByteClass) → ending (moved_mode m) (n + at) k ≡ each moved_token (ending m at k)
  unfolding each
  ending-moved between at k = own-moved at k
  ending-moved in_comment at k = refl
  ending-moved (in_name s l) at k = go (in_word k)
    where
      go : (q : Bool) → cond q [] (Token.Word (n + s) l ∷ own_token (n + at) k) ≡ each moved_token (cond q [] (Token.Word s l ∷ own_token at k))
      go true = refl
      go false = ap {B = List Token} (λ r. Token.Word (n + s) l ∷ r) (own-moved at k)

  mode-moved : (m : Mode) (at : ℕ) (k : ByteClass) → mode_then (moved_mode m) (n + at) k ≡ moved_mode (mode_then m at k)
  mode-moved between at k = between-moved at k
  mode-moved in_comment at k = comment-moved k
  mode-moved (in_name s l) at k = go (in_word k)
    where
      go : (q : Bool) → cond q (in_name (n + s) (l + 1)) (between_then (n + at) k) ≡ moved_mode (cond q (in_name s (l + 1)) (between_then at k))
      go true = refl
      go false = between-moved at k

  tokens-moved : (bs : List ℕ) (m : Mode) (at : ℕ) → tokens_from bs (moved_mode m) (n + at) ≡ each moved_token (tokens_from bs m at)
  unfolding tokens_from each
  tokens-moved [] between at = refl
  tokens-moved [] in_comment at = refl
  tokens-moved [] (in_name s l) at = refl
  tokens-moved (b ∷ bs) m at =
      let e : n + at + 1 ≡ n + (at + 1) = omega arith in
      rw (ending-moved m at (class_of b), mode-moved m at (class_of b), e, tokens-moved bs (mode_then m at (class_of b)) (at + 1))
      (sym (each_append moved_token (ending m at (class_of b)) (tokens_from bs (mode_then m at (class_of b)) (at + 1))))

module _ (front t : List ℕ) where
  -- FORMS
  abbrev moved : Forms → Forms
  moved f = placed (λ p. length front + p) f

  abbrev moved_frames : Frames → Frames
  moved_frames r = record { here = moved r.here; around = each moved r.around }

  head-moved : (fs : List Forms) → head (each moved fs) ≡ moved (head fs)
  unfolding each
  head-moved [] = refl
  head-moved (f ∷ fs) = refl

  tail-moved : (fs : List Forms) → tail (each moved fs) ≡ each moved (tail fs)
  unfolding each
  tail-moved [] = refl
  tail-moved (f ∷ fs) = refl

  step-moved : (k : Token) (r : Frames) → step (front ++ t) (moved_token (length front) k) (moved_frames r) ≡ moved_frames (step t k r)
  unfolding each
  step-moved (Token.Open p) r = rw (head-moved r.around, tail-moved r.around)
  step-moved (Token.Close p) r = refl
  step-moved (Token.Word s k) r = rw (drop-append-add front t s)
  step-moved Token.End r = refl

  build-moved : (ks : List Token) → build (front ++ t) (each (moved_token (length front)) ks) ≡ moved_frames (build t ks)
  unfolding build each
  build-moved [] = refl
  build-moved (k ∷ ks) = ap (step (front ++ t) (moved_token (length front) k)) (build-moved ks) ∙ step-moved k (build t ks)

  -- the text after other bytes reads as it does by itself
  pub text-moved : (frames_at (front ++ t) (length front)).here ≡ placed (λ p. length front + p) (forms_of t)
  unfolding frames_at tokens_at forms_of
  text-moved =
      let e : length front ≡ length front + 0 = omega arith in
      ap (λ (l : List ℕ). (build (front ++ t) (tokens_from l between (length front))).here) (drop-append_seam front t)
      ∙ ap (λ (k : ℕ). (build (front ++ t) (tokens_from t between k)).here) e
      ∙ ap (λ (ks : List Token). (build (front ++ t) ks).here) (tokens-moved (length front) t between 0)
      ∙ ap (λ (r : Frames). r.here) (build-moved (tokens_from t between 0))
