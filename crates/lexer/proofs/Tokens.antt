-- How the tokens of a text go on by a byte, over a comment and over a word: what the loop of `next` does, stated once.
-- Assumes nothing.
use mathlib.Core.Path.{◌≡◌, refl, sym, ap, ◌∙◌}
use mathlib.Core.Bool.{Bool, true, false}
use mathlib.Core.List.{List, [], ◌∷◌, ◌++◌}
use Prim.Native.Nat.{ℕ, ◌+◌, ◌-◌, ◌≤◌, ◌<◌}
use native.Mathlib.Numerals.{add-one}
use native.Mathlib.Omega.{arith}
use lib.ListN.{length, get_or, drop, drop_of_length-le}
use lib.Seq.{drop-cons}
use types.Run.{OneOf}
use Rattle.lexer.specs.Class.{class_of, in_word, ends_comment}
use Rattle.lexer.specs.Scan.{Mode, between, in_comment, in_name}
use Rattle.lexer.specs.Token.{between_then, own_token, mode_then, ending, tokens_from, first_of}
use Rattle.lexer.specs.Answers.{first_from, ends_word, comment_end, word_end}
use Rattle.lexer.specs.declared.ByteClass.{ByteClass}
use Rattle.lexer.specs.declared.ByteClass.TheVariants.{Blank, LineFeed, Comment, Open, Close, Letter, Digit, Dot, Wrong}
use Rattle.lexer.specs.declared.Token.{Token}
use Rattle.lexer.proofs.Ends.{over-comment}
use Rattle.lexer.proofs.Variants.{tag, among}

-- ---- a turn of the loop of `next`

-- a byte between tokens that only leads to a mode
pub record Leads (at : ℕ) (k : ByteClass) (mode : Mode) : Type 0 where
  pub no-token : own_token at k ≡ []
  pub to : between_then at k ≡ mode

pub blank-like : (at : ℕ) (k : ByteClass) → OneOf (0 ∷ 1 ∷ 8 ∷ []) (tag k) → Leads at k between
blank-like at =
    among (0 ∷ 1 ∷ 8 ∷ []) (λ k. Leads at k between)
    (record { no-token = refl; to = refl }, record { no-token = refl; to = refl }, tt, tt, tt, tt, tt, tt, record { no-token = refl; to = refl })

pub name-like : (at : ℕ) (k : ByteClass) → OneOf (5 ∷ 6 ∷ 7 ∷ []) (tag k) → Leads at k (in_name at 1)
name-like at =
    among (5 ∷ 6 ∷ 7 ∷ []) (λ k. Leads at k (in_name at 1))
    (tt, tt, tt, tt, tt, record { no-token = refl; to = refl }, record { no-token = refl; to = refl }, record { no-token = refl; to = refl }, tt)

pub comment-like : (at : ℕ) (k : ByteClass) → k ≡ Comment → Leads at k in_comment
comment-like at k e = record { no-token = rw e; to = rw e }

-- what ends a comment is a blank
blank-too : (bs : List ℕ) (at : ℕ) (k : ByteClass) → ends_comment k ≡ true
    → own_token at k ++ tokens_from bs (between_then at k) (at + 1) ≡ tokens_from bs between (at + 1)
blank-too bs at Blank e = refl
blank-too bs at LineFeed e = refl
blank-too bs at Comment e = cc
blank-too bs at Open e = cc
blank-too bs at Close e = cc
blank-too bs at Letter e = cc
blank-too bs at Digit e = cc
blank-too bs at Dot e = cc
blank-too bs at Wrong e = cc

module _ (t : List ℕ) (at : ℕ) where
  by_byte : at < length t
      → tokens_from (drop at t) between at
      ≡ own_token at (class_of (get_or t at 0)) ++ tokens_from (drop (at + 1) t) (between_then at (class_of (get_or t at 0))) (at + 1)
  unfolding tokens_from
  by_byte h =
      ap (λ (l : List ℕ). tokens_from l between at) (drop-cons t at 0 h)
      ∙ ap (λ (n : ℕ). own_token at (class_of (get_or t at 0)) ++ tokens_from (drop n t) (between_then at (class_of (get_or t at 0))) (at + 1)) (sym (add-one at))

  pub turn : (k : ByteClass) (mode : Mode) → at < length t → k ≡ class_of (get_or t at 0) → Leads at k mode
      → tokens_from (drop at t) between at ≡ tokens_from (drop (at + 1) t) mode (at + 1)
  turn k mode h e l = by_byte h ∙ rw (← e, l.no-token, l.to)

  pub stop : (k : ByteClass) (r : Token) → at < length t → k ≡ class_of (get_or t at 0) → own_token at k ≡ r ∷ []
      → first_of (tokens_from (drop at t) between at) ≡ r
  stop k r h e f = ap first_of (by_byte h) ∙ rw (← e, f)

  pub last : length t ≤ at → tokens_from (drop at t) between at ≡ []
  unfolding tokens_from
  last h = ap (λ (l : List ℕ). tokens_from l between at) (drop_of_length-le t h)

  pub skip : tokens_from (drop at t) in_comment at ≡ tokens_from (drop (comment_end t at) t) between (comment_end t at)
  unfolding tokens_from
  skip = over-comment tokens_from (λ at. refl) (λ b bs at. refl) (λ b bs at e. blank-too bs at (class_of b) e) t at

-- the word under way ends where it goes on no more
word_first : (bs : List ℕ) (first len at : ℕ) → first + len ≡ at
    → first_of (tokens_from bs (in_name first len) at) ≡ Token.Word first (first_from bs ends_word at - first)
unfolding tokens_from first_from
word_first [] first len at e = ap (Token.Word first) (omega arith)
word_first (b ∷ bs) first len at e = go (in_word (class_of b)) refl (word_first bs first (len + 1) (at + 1) (omega arith))
  where
    go : (q : Bool) → in_word (class_of b) ≡ q
        → first_of (tokens_from bs (in_name first (len + 1)) (at + 1)) ≡ Token.Word first (first_from bs ends_word (at + 1) - first)
        → first_of (ending (in_name first len) at (class_of b) ++ tokens_from bs (mode_then (in_name first len) at (class_of b)) (at + 1))
        ≡ Token.Word first (elim (ends_word (class_of b)) [ true ↦ at | false ↦ first_from bs ends_word (at + 1) ] - first)
    go true f i = rw f i
    go false f i = rw f (ap (Token.Word first) (omega arith))

pub word-here : (t : List ℕ) (at : ℕ) → first_of (tokens_from (drop (at + 1) t) (in_name at 1) (at + 1)) ≡ Token.Word at (word_end t (at + 1) - at)
word-here t at = word_first (drop (at + 1) t) at 1 (at + 1) refl
