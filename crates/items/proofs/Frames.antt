-- What an item that `next_item` answered says of the frames at its place: the row at hand and the rows around it. For readers that carry the rows
-- around along a loop; what it says of the row at hand is the law of Items. Assumes nothing.
use mathlib.Core.Path.{◌≡◌, refl, sym, ap, subst, ◌∙◌}
use mathlib.Core.List.{List, [], ◌∷◌}
use Prim.Native.Nat.{ℕ, ◌+◌, ◌-◌}
use native.Mathlib.Omega.{arith}
use lib.ListN.{take, drop}
use Rattle.lexer.specs.Forms.{Forms, closed, ended, word, part, Frames, head, tail, out, frames_at, trim}
use Rattle.lexer.specs.Token.{token_at}
use Rattle.lexer.specs.declared.Token.{Token}
use Rattle.lexer.proofs.Seen as token
use Rattle.lexer.proofs.Trim.{whole}
use Rattle.items.specs.Looks.{item_of, item_at}
use Rattle.items.specs.declared.Item.{Item}
use Rattle.items.proofs.Items as items
use Rattle.items.proofs.Items.{Ahead}

-- the frames at a place by the item there and the frames after it
abbrev pub seen : List ℕ → Item → Frames
seen t (Item.Word s n k q) = record { here = word s (take n (drop s t)) (frames_at t q).here; around = (frames_at t q).around }
seen t (Item.Open p q) = record { here = part p (frames_at t q).here (head (frames_at t q).around); around = tail (frames_at t q).around }
seen t (Item.Close q) = record { here = closed; around = (frames_at t q).here ∷ (frames_at t q).around }
seen t Item.End = record { here = ended; around = [] }

pub record FramesSeen (t : List ℕ) (at : ℕ) (r : Item) : Type 0 where
  pub frames : frames_at t at ≡ seen t r
  pub item : items.Looked t at r
  pub ahead : Ahead t at r

frames-of : (t : List ℕ) (at : ℕ) (k : Token) → token.Seen t at k → frames_at t at ≡ seen t (item_of t k)
frames-of t at (Token.Open p) s = s.frames
frames-of t at (Token.Close p) s = s.frames
frames-of t at (Token.Word p n) s = s.frames
frames-of t at Token.End s = s.frames

-- what a caller of `next_item` knows of the item k that it answered
pub sees : {t : List ℕ} {i : ℕ} {r k : Item} → r ≡ item_at t i → r ≡ k → FramesSeen t i k
unfolding item_at
sees {t} {i} e f =
    let l = items.sees e f in
    record {
      frames = subst (λ (x : Item). frames_at t i ≡ seen t x) (sym e ∙ f) (frames-of t i (token_at t i) (token.seen t i (token_at t i) (token_at t i) refl refl));
      item = l;
      ahead = l.ahead;
    }

-- a word ends where what follows it begins
pub word_next : (t : List ℕ) (i : ℕ) {s n k q : ℕ} {r : Item} → r ≡ item_at t i → r ≡ Item.Word s n k q → q ≡ s + n
unfolding item_at
word_next t i {s} {n} {k} {q} e f = go (token_at t i) (sym f ∙ e)
  where
    go : (k' : Token) → Item.Word s n k q ≡ item_of t k' → q ≡ s + n
    go (Token.Open p) h = absurd (let z : ◌≡◌ {A = ℕ} 0 1 = cc in omega arith)
    go (Token.Close p) h = absurd (let z : ◌≡◌ {A = ℕ} 0 1 = cc in omega arith)
    go (Token.Word a b) h =
        let x : q ≡ a + b = cc in
        let y : s ≡ a = cc in
        let z : n ≡ b = cc in
        omega arith
    go Token.End h = absurd (let z : ◌≡◌ {A = ℕ} 0 1 = cc in omega arith)

module _ {t : List ℕ} {i : ℕ} {k : Item} (l : FramesSeen t i k) where
  pub here_of : (frames_at t i).here ≡ (seen t k).here
  here_of = ap (λ (f : Frames). f.here) l.frames

  pub around-of : (frames_at t i).around ≡ (seen t k).around
  around-of = ap (λ (f : Frames). f.around) l.frames

-- a close ends the row that was at hand at the place at
pub closes : {t : List ℕ} {i q : ℕ} (at : ℕ) → FramesSeen t i (Item.Close q) → (frames_at t i).around ≡ (frames_at t at).around
    → out (frames_at t at) ≡ frames_at t q
closes at l e = ap (λ (a : List Forms). record { here = head a; around = tail a }) (sym e ∙ around-of l)

-- what q says of the row at hand, by the item
module _ {B : Type 0} (q : Forms → B) {t : List ℕ} {i : ℕ} (levels : ℕ) where
  pub by-close : {j : ℕ} → FramesSeen t i (Item.Close j) → q (trim (frames_at t i).here levels) ≡ q closed
  by-close l = items.by-close q levels l.item

  pub by_end : FramesSeen t i Item.End → q (trim (frames_at t i).here levels) ≡ q ended
  by_end l = items.by_end q levels l.item

  pub by_word : {s n k j : ℕ} → FramesSeen t i (Item.Word s n k j)
      → q (trim (frames_at t i).here levels) ≡ q (word s (take n (drop s t)) (trim (frames_at t j).here levels))
  by_word l = items.by_word q levels l.item

  pub by_part : {p j : ℕ} → FramesSeen t i (Item.Open p j) → (levels ≡ 0 → ⊥)
      → q (trim (frames_at t i).here levels) ≡ q (part p (trim (frames_at t j).here (levels - 1)) (trim (head (frames_at t j).around) levels))
  by_part {p} l h = ap (λ (f : Forms). q (trim f levels)) (here_of l) ∙ ap q (whole p _ _ levels h)

  pub too-deep : {p j : ℕ} → FramesSeen t i (Item.Open p j) → levels ≡ 0 → q (trim (frames_at t i).here levels) ≡ q ended
  too-deep l h = items.too-deep q levels l.item h
