-- What the text reads as from a place on has no more tokens than the text has bytes there. By induction on the bytes, where a word that is under
-- way is a token still to come; then on the tokens. Assumes nothing.
use Prim.Native.Nat.{ℕ, ◌+◌, ◌≤◌}
use native.Mathlib.Omega.{arith}
use mathlib.Core.Bool.{Bool, true, false, cond}
use mathlib.Core.List.{List, [], ◌∷◌}
use lib.ListN.{length, drop, length-append}
use Rattle.lexer.specs.declared.ByteClass.{ByteClass}
use Rattle.lexer.specs.declared.ByteClass.TheVariants.{Blank, LineFeed, Comment, Open, Close, Letter, Digit, Dot, Wrong}
use Rattle.lexer.specs.declared.Token.{Token}
use Rattle.lexer.specs.Class.{class_of, in_word, ends_comment}
use Rattle.lexer.specs.Scan.{Mode, between, in_comment, in_name}
use Rattle.lexer.specs.Token.{between_then, own_token, mode_then, ending, tokens_from, tokens_at}
use Rattle.lexer.specs.Forms.{Forms, Frames, head, tail, step, build, frames_at, forms_of}
use Rattle.code_laws.specs.Weight.{weight, weight_around, weight_of}

-- the token that is under way
abbrev pending : Mode → ℕ
pending between = 0
pending in_comment = 0
pending (in_name s n) = 1

-- a byte ends tokens and begins one: one more than before at most
own-token : (at : ℕ) (k : ByteClass) → length (own_token at k) + pending (between_then at k) ≤ 1
own-token at Blank = omega arith
own-token at LineFeed = omega arith
own-token at Comment = omega arith
own-token at Open = omega arith
own-token at Close = omega arith
own-token at Letter = omega arith
own-token at Digit = omega arith
own-token at Dot = omega arith
own-token at Wrong = omega arith

by_byte : (m : Mode) (at : ℕ) (k : ByteClass) → length (ending m at k) + pending (mode_then m at k) ≤ pending m + 1
by_byte between at k = omega (arith, own-token at k)
by_byte in_comment at k = go (ends_comment k)
  where
    go : (b : Bool) → 0 + pending (cond b between in_comment) ≤ 0 + 1
    go true = omega arith
    go false = omega arith
by_byte (in_name s n) at k = go (in_word k)
  where
    go : (b : Bool) → length (cond b [] (Token.Word s n ∷ own_token at k)) + pending (cond b (in_name s (n + 1)) (between_then at k)) ≤ 1 + 1
    go true = omega arith
    go false = omega (arith, own-token at k)

tokens-few : (bs : List ℕ) (m : Mode) (at : ℕ) → length (tokens_from bs m at) ≤ length bs + pending m
unfolding tokens_from
tokens-few [] between at = omega arith
tokens-few [] in_comment at = omega arith
tokens-few [] (in_name s n) at = omega arith
tokens-few (b ∷ bs) m at =
    let k = class_of b in
    rw (length-append (ending m at k) (tokens_from bs (mode_then m at k) (at + 1))) (omega (arith, by_byte m at k, tokens-few bs (mode_then m at k) (at + 1)))

-- each token is one token of the rows
pub around-weight : (fs : List Forms) → weight (head fs) + weight_around (tail fs) ≤ weight_around fs
unfolding weight weight_around
around-weight [] = omega arith
around-weight (f ∷ fs) = omega arith

by_token : (t : List ℕ) (k : Token) (r : Frames) → weight_of (step t k r) ≤ weight_of r + 1
unfolding weight weight_around
by_token t (Token.Open p) r = omega (arith, around-weight r.around)
by_token t (Token.Close p) r = omega arith
by_token t (Token.Word s n) r = omega arith
by_token t Token.End r = omega arith

build-light : (t : List ℕ) (ks : List Token) → weight_of (build t ks) ≤ length ks
unfolding build weight weight_around
build-light t [] = omega arith
build-light t (k ∷ ks) = omega (arith, by_token t k (build t ks), build-light t ks)

-- from a place on: the row at hand and the rows around it
pub frames-weight : (t : List ℕ) (at : ℕ) → weight_of (frames_at t at) ≤ length (drop at t)
unfolding frames_at tokens_at
frames-weight t at = omega (arith, build-light t (tokens_from (drop at t) between at), tokens-few (drop at t) between at)

-- the whole text
pub text-weight : (t : List ℕ) → weight (forms_of t) ≤ length t
unfolding forms_of
text-weight t = omega (arith, frames-weight t 0)
