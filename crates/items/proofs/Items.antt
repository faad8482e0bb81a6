-- What an item that `next_item` answered says: where it lies, where the row at hand ends, and what any test of that row says by it. The row is cut
-- where no level is left. Assumes nothing.
use mathlib.Core.Path.{◌≡◌, refl, sym, ap, subst, ◌∙◌}
use mathlib.Core.Bool.{Bool, true, false}
use mathlib.Core.List.{List, [], ◌∷◌}
use Prim.Native.Nat.{ℕ, ◌+◌, ◌-◌, ◌<◌, ◌≤◌}
use native.Mathlib.Omega.{arith}
use borrow.Author.Tests.{eqb-true, eqb-false}
use lib.Dec.{eqb}
use lib.ListN.{length, take, drop}
use types.Run.{OneOf, hit}
use mir.Val.{has_key}
use denote.Enum.Declared.{tag_of}
use Rattle.lexer.specs.Forms.{Forms, closed, ended, word, part, Frames, frames_at, trim}
use Rattle.lexer.specs.Token.{token_at}
use Rattle.lexer.specs.declared.Token.{Token}
use Rattle.lexer.proofs.Seen as token
use Rattle.lexer.proofs.Trim.{whole, cut}
use Rattle.lexer.proofs.Variants.{When, one_of}
use Rattle.words.specs.Numbers.{number_of}
use Rattle.items.specs.Looks.{item_of, item_at, row_end}
use Rattle.items.specs.declared.Item.{Item}
use Rattle.items.proofs.Ends.{leaves, ends_by}
use Rattle.items.specs.contracts.Item.{the_type}

-- the row at a place, and the end of the row, by the item there
abbrev pub here_by : List ℕ → Item → Forms
here_by t (Item.Word s n k q) = word s (take n (drop s t)) (frames_at t q).here
here_by t (Item.Open p q) = part p (frames_at t q).here (frames_at t (row_end t q)).here
here_by t (Item.Close q) = closed
here_by t Item.End = ended

abbrev pub end_by : List ℕ → Item → ℕ
end_by t (Item.Word s n k q) = row_end t q
end_by t (Item.Open p q) = row_end t (row_end t q)
end_by t (Item.Close q) = q
end_by t Item.End = length t

-- an item lies ahead and in the text, and a word has its number and its bytes there
abbrev pub Ahead : List ℕ → ℕ → Item → Type 0
Ahead t at (Item.Word s n k q) = (at < q) × (q ≤ length t) × (number_of (take n (drop s t)) ≡ k) × (s + n ≤ length t)
Ahead t at (Item.Open p q) = (at < q) × (q ≤ length t)
Ahead t at (Item.Close q) = (at < q) × (q ≤ length t)
Ahead t at Item.End = Unit {0}

pub record Looked (t : List ℕ) (at : ℕ) (r : Item) : Type 0 where
  pub here : (frames_at t at).here ≡ here_by t r
  pub end : row_end t at ≡ end_by t r
  pub ahead : Ahead t at r

by_token : (t : List ℕ) (at : ℕ) (k : Token) → token.Seen t at k → Looked t at (item_of t k)
by_token t at (Token.Open p) s = record {
  here = ap (λ (f : Frames). f.here) s.frames ∙ ap (λ (f : Frames). part p (frames_at t (p + 1)).here f.here) (leaves t (p + 1));
  end = ends_by t at (Token.Open p) s.tokens;
  ahead = omega (arith, s.ahead);
}
by_token t at (Token.Close p) s = record {
  here = ap (λ (f : Frames). f.here) s.frames;
  end = ends_by t at (Token.Close p) s.tokens;
  ahead = omega (arith, s.ahead);
}
by_token t at (Token.Word p n) s = record {
  here = ap (λ (f : Frames). f.here) s.frames;
  end = ends_by t at (Token.Word p n) s.tokens;
  ahead = (omega (arith, s.ahead), omega (arith, s.ahead), refl, s.ahead.2);
}
by_token t at Token.End s = record {
  here = ap (λ (f : Frames). f.here) s.frames;
  end = ends_by t at Token.End s.tokens;
  ahead = tt;
}

-- what a caller of the lexer's `next` knows of the token k that it answered
pub reads : {t : List ℕ} {i : ℕ} {r k : Token} → r ≡ token_at t i → r ≡ k → Looked t i (item_of t k)
reads {t} {i} {r} {k} e f = by_token t i k (token.seen t i r k e f)

-- what a caller of `next_item` knows of the item k that it answered
pub sees : {t : List ℕ} {i : ℕ} {r k : Item} → r ≡ item_at t i → r ≡ k → Looked t i k
unfolding item_at
sees {t} {i} e f =
    subst (λ (x : Item). Looked t i x) (sym e ∙ f) (by_token t i (token_at t i) (token.seen t i (token_at t i) (token_at t i) refl refl))

-- what is lent from the start of a word to its end is the bytes of the word
pub word-lent : (t : List ℕ) (s n : ℕ) → take ((s + n) - s) (drop s t) ≡ take n (drop s t)
word-lent t s n =
    let e : (s + n) - s ≡ n = omega arith in
    ap (λ (k : ℕ). take k (drop s t)) e

-- ---- what q says of the row at hand, by the item

module _ {B : Type 0} (q : Forms → B) {t : List ℕ} {i : ℕ} (levels : ℕ) where
  by-item : {k : Item} → Looked t i k → q (trim (frames_at t i).here levels) ≡ q (trim (here_by t k) levels)
  by-item l = ap (λ (f : Forms). q (trim f levels)) l.here

  pub by-close : {j : ℕ} → Looked t i (Item.Close j) → q (trim (frames_at t i).here levels) ≡ q closed
  unfolding trim
  by-close l = by-item l

  pub by_end : Looked t i Item.End → q (trim (frames_at t i).here levels) ≡ q ended
  unfolding trim
  by_end l = by-item l

  pub by_word : {s n k j : ℕ} → Looked t i (Item.Word s n k j)
      → q (trim (frames_at t i).here levels) ≡ q (word s (take n (drop s t)) (trim (frames_at t j).here levels))
  unfolding trim
  by_word l = by-item l

  -- a part whose row ends at the place o
  pub by_part : {p j : ℕ} (o : ℕ) → Looked t i (Item.Open p j) → row_end t j ≡ o → (levels ≡ 0 → ⊥)
      → q (trim (frames_at t i).here levels) ≡ q (part p (trim (frames_at t j).here (levels - 1)) (trim (frames_at t o).here levels))
  by_part {p} {j} o l e h =
      by-item l
      ∙ ap q (whole p _ _ levels h)
      ∙ ap (λ (n : ℕ). q (part p (trim (frames_at t j).here (levels - 1)) (trim (frames_at t n).here levels))) e

  pub too-deep : {p j : ℕ} → Looked t i (Item.Open p j) → levels ≡ 0 → q (trim (frames_at t i).here levels) ≡ q ended
  too-deep {p} l h = by-item l ∙ ap q (cut p _ _ levels h)

-- ---- an arm with several items

-- the place of an item among the variants, as the check has it
abbrev tag : Item → ℕ
tag k = tag_of the_type k

-- P at each item whose place is among ks, so P at an item that is one of them
abbrev pub Each : List ℕ → (Item → Type 0) → Type 0
Each ks P =
    When (has_key ks 0) ((s n k q : ℕ) → P (Item.Word s n k q))
    × When (has_key ks 1) ((p q : ℕ) → P (Item.Open p q))
    × When (has_key ks 2) ((q : ℕ) → P (Item.Close q))
    × When (has_key ks 3) (P Item.End)

pub among : (ks : List ℕ) (P : Item → Type 0) → Each ks P → (r : Item) → OneOf ks (tag r) → P r
among ks P a (Item.Word s n k q) h = one_of ks 0 ((s n k q : ℕ) → P (Item.Word s n k q)) a.0 h s n k q
among ks P a (Item.Open p q) h = one_of ks 1 ((p q : ℕ) → P (Item.Open p q)) a.1 h p q
among ks P a (Item.Close q) h = one_of ks 2 ((q : ℕ) → P (Item.Close q)) a.2 h q
among ks P a Item.End h = one_of ks 3 (P Item.End) a.3 h

-- an item that is no word, no part or no close is one of the others
pub no_word : (r : Item) → ((s n k q : ℕ) → r ≡ Item.Word s n k q → ⊥) → OneOf (1 ∷ 2 ∷ 3 ∷ []) (tag r)
no_word (Item.Word s n k q) h = absurd (h s n k q refl)
no_word (Item.Open p q) h = hit (1 ∷ 2 ∷ 3 ∷ []) 1 tt
no_word (Item.Close q) h = hit (1 ∷ 2 ∷ 3 ∷ []) 2 tt
no_word Item.End h = hit (1 ∷ 2 ∷ 3 ∷ []) 3 tt

pub no_part : (r : Item) → ((p q : ℕ) → r ≡ Item.Open p q → ⊥) → OneOf (0 ∷ 2 ∷ 3 ∷ []) (tag r)
no_part (Item.Word s n k q) h = hit (0 ∷ 2 ∷ 3 ∷ []) 0 tt
no_part (Item.Open p q) h = absurd (h p q refl)
no_part (Item.Close q) h = hit (0 ∷ 2 ∷ 3 ∷ []) 2 tt
no_part Item.End h = hit (0 ∷ 2 ∷ 3 ∷ []) 3 tt

pub no_close : (r : Item) → ((q : ℕ) → r ≡ Item.Close q → ⊥) → OneOf (0 ∷ 1 ∷ 3 ∷ []) (tag r)
no_close (Item.Word s n k q) h = hit (0 ∷ 1 ∷ 3 ∷ []) 0 tt
no_close (Item.Open p q) h = hit (0 ∷ 1 ∷ 3 ∷ []) 1 tt
no_close (Item.Close q) h = absurd (h q refl)
no_close Item.End h = hit (0 ∷ 1 ∷ 3 ∷ []) 3 tt

-- p and q say the same of every row that starts with one of them
module _ {B : Type 0} (p q : Forms → B) where
  -- of rows that start with a word, a part, a close, by which of them are among ks; and of the end
  abbrev pub Alike : List ℕ → Type 0
  Alike ks =
      When (has_key ks 0) ((s : ℕ) (b : List ℕ) (f : Forms) → p (word s b f) ≡ q (word s b f))
      × When (has_key ks 1) ((x : ℕ) (f g : Forms) → p (part x f g) ≡ q (part x f g))
      × When (has_key ks 2) (p closed ≡ q closed)
      × (p ended ≡ q ended)

  pub alike-open : {t : List ℕ} {i x j : ℕ} (levels : ℕ) → ((f g : Forms) → p (part x f g) ≡ q (part x f g)) → p ended ≡ q ended → Looked t i (Item.Open x j)
      → (b : Bool) → eqb levels 0 ≡ b → p (trim (frames_at t i).here levels) ≡ q (trim (frames_at t i).here levels)
  alike-open levels a d l true e =
      too-deep p levels l (eqb-true levels 0 e) ∙ d ∙ sym (too-deep q levels l (eqb-true levels 0 e))
  alike-open levels a d l false e =
      by_part p levels _ l refl (eqb-false levels 0 e) ∙ a _ _ ∙ sym (by_part q levels _ l refl (eqb-false levels 0 e))

  by_kind : {t : List ℕ} {i : ℕ} (k : Item) (ks : List ℕ) (levels : ℕ) → Alike ks → Looked t i k → OneOf ks (tag k)
      → p (trim (frames_at t i).here levels) ≡ q (trim (frames_at t i).here levels)
  by_kind (Item.Word s n k j) ks levels a l h = by_word p levels l ∙ one_of ks 0 _ a.0 h s _ _ ∙ sym (by_word q levels l)
  by_kind (Item.Open x j) ks levels a l h = alike-open levels (one_of ks 1 _ a.1 h x) a.3 l (eqb levels 0) refl
  by_kind (Item.Close j) ks levels a l h = by-close p levels l ∙ one_of ks 2 _ a.2 h ∙ sym (by-close q levels l)
  by_kind Item.End ks levels a l h = by_end p levels l ∙ a.3 ∙ sym (by_end q levels l)

  pub alike : (t : List ℕ) (i : ℕ) (r : Item) (ks : List ℕ) (levels : ℕ) → Alike ks → r ≡ item_at t i → OneOf ks (tag r)
      → p (trim (frames_at t i).here levels) ≡ q (trim (frames_at t i).here levels)
  alike t i r ks levels a e h = by_kind r ks levels a (sees e refl) h

  -- the same, of a row that is not cut
  kind-here : {t : List ℕ} {i : ℕ} (k : Item) (ks : List ℕ) → Alike ks → Looked t i k → OneOf ks (tag k) → p (frames_at t i).here ≡ q (frames_at t i).here
  kind-here (Item.Word s n k j) ks a l h = ap p l.here ∙ one_of ks 0 _ a.0 h s _ _ ∙ sym (ap q l.here)
  kind-here (Item.Open x j) ks a l h = ap p l.here ∙ one_of ks 1 _ a.1 h x _ _ ∙ sym (ap q l.here)
  kind-here (Item.Close j) ks a l h = ap p l.here ∙ one_of ks 2 _ a.2 h ∙ sym (ap q l.here)
  kind-here Item.End ks a l h = ap p l.here ∙ a.3 ∙ sym (ap q l.here)

  pub alike-here : (t : List ℕ) (i : ℕ) (r : Item) (ks : List ℕ) → Alike ks → r ≡ item_at t i → OneOf ks (tag r) → p (frames_at t i).here ≡ q (frames_at t i).here
  alike-here t i r ks a e h = kind-here r ks a (sees e refl) h
