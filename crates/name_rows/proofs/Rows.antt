-- The words of a row, one after the other: what is at a place, whether a name is among the first of them, and how many they are.
-- Assumes nothing.
use mathlib.Core.Path.{◌≡◌, refl, sym, ap, ◌∙◌}
use mathlib.Core.Bool.{true, false}
use mathlib.Core.List.{List, [], ◌∷◌}
use Prim.Native.Nat.{ℕ, suc, ◌+◌, ◌-◌, ◌<◌, ◌≤◌}
use native.Mathlib.Omega.{arith}
use lib.ListN.{length, take}
use lib.Seq.{take-nil}
use Rattle.byte_slices.specs.Parts as parts
use Rattle.lexer.specs.Token.{token_at}
use Rattle.lexer.specs.Forms.{Forms, part, Frames, frames_at}
use Rattle.lexer.specs.declared.Token.{Token}
use Rattle.lexer.proofs.Seen.{seen}
use Rattle.policy.specs.Basics.{Name, same, any, is_in}
use Rattle.name_rows.specs.WordRows.{words_in, is_among_first, WordHere, Inside}

-- ---- the item at a place

module _ (t : List ℕ) (at : ℕ) (r : Token) (e : r ≡ token_at t at) where
  pub a_word : (s n : ℕ) → r ≡ Token.Word s n → WordHere t at s n
  unfolding parts.part
  a_word s n f =
      let l = seen t at r (Token.Word s n) e f in
      record { here = ap (λ (x : Frames). x.here) l.frames; ahead = omega (arith, l.ahead); within = omega (arith, l.ahead) }

  pub no-word : ((s n : ℕ) → r ≡ Token.Word s n → ⊥) → words_in (frames_at t at).here ≡ []
  unfolding words_in
  no-word never = by r refl
    where
      by : (k : Token) → r ≡ k → words_in (frames_at t at).here ≡ []
      by (Token.Word s n) f = absurd (never s n f)
      by (Token.Open p) f = ap (λ (x : Frames). words_in x.here) (seen t at r (Token.Open p) e f).frames
      by (Token.Close p) f = ap (λ (x : Frames). words_in x.here) (seen t at r (Token.Close p) e f).frames
      by Token.End f = ap (λ (x : Frames). words_in x.here) (seen t at r Token.End e f).frames

  -- ---- a part's own row

  pub a-part : (p : ℕ) → r ≡ Token.Open p → Inside t at (p + 1)
  a-part p f = record { row = λ q i after g. inner _ _ _ _ _ _ (sym (ap (λ (x : Frames). x.here) (seen t at r (Token.Open p) e f).frames) ∙ g) }
    where
      inner : (p q : ℕ) (a b c d : Forms) → part p a b ≡ part q c d → a ≡ c
      inner p q a b c d h = cc

  pub no-part : ((p : ℕ) → r ≡ Token.Open p → ⊥) → Inside t at at
  no-part never = by r refl
    where
      other : (k : Token) → r ≡ k → (g : Forms) → ((q : ℕ) (i after : Forms) → g ≡ part q i after → ⊥) → (frames_at t at).here ≡ g → Inside t at at
      other k f g apart z = record { row = λ q i after h. absurd (apart q i after (sym z ∙ h)) }

      by : (k : Token) → r ≡ k → Inside t at at
      by (Token.Open p) f = absurd (never p f)
      by (Token.Word s n) f =
          other (Token.Word s n) f _ (λ q i after h. let z : ◌≡◌ {A = ℕ} 0 1 = cc in omega arith) (ap (λ (x : Frames). x.here) (seen t at r (Token.Word s n) e f).frames)
      by (Token.Close p) f =
          other (Token.Close p) f _ (λ q i after h. let z : ◌≡◌ {A = ℕ} 0 1 = cc in omega arith) (ap (λ (x : Frames). x.here) (seen t at r (Token.Close p) e f).frames)
      by Token.End f =
          other Token.End f _ (λ q i after h. let z : ◌≡◌ {A = ℕ} 0 1 = cc in omega arith) (ap (λ (x : Frames). x.here) (seen t at r Token.End e f).frames)

-- ---- the words of the row

module _ {t : List ℕ} {i s n : ℕ} (h : WordHere t i s n) where
  pub words-here : words_in (frames_at t i).here ≡ parts.part t s n ∷ words_in (frames_at t (s + n)).here
  unfolding words_in
  words-here = ap words_in h.here

  first-words : (k : ℕ) → 0 < k → take k (words_in (frames_at t i).here) ≡ parts.part t s n ∷ take (k - 1) (words_in (frames_at t (s + n)).here)
  first-words k l =
      let z : k ≡ suc (k - 1) = omega arith in
      ap (take k) words-here ∙ ap (λ (m : ℕ). take m (parts.part t s n ∷ words_in (frames_at t (s + n)).here)) z

  module _ (w : Name) where
    pub is-this : (k : ℕ) → 0 < k → same w (parts.part t s n) ≡ true → true ≡ is_among_first t i k w
    unfolding is_in any
    is-this k l q = sym (ap (is_in w) (first-words k l) ∙ rw q)

    pub is_later : (k : ℕ) → 0 < k → same w (parts.part t s n) ≡ false → is_among_first t (s + n) (k - 1) w ≡ is_among_first t i k w
    unfolding is_in any
    is_later k l q = sym (ap (is_in w) (first-words k l) ∙ rw q)

module _ (t : List ℕ) (i k : ℕ) (w : Name) where
  pub not-among-none : words_in (frames_at t i).here ≡ [] → false ≡ is_among_first t i k w
  unfolding is_in any
  not-among-none e = rw (e, take-nil {A = Name} k)

  pub not-among-first-none : k ≡ 0 → false ≡ is_among_first t i k w
  unfolding is_in any
  not-among-first-none e = rw e

-- ---- how many they are

-- so many of the row at a place are before i
pub record Counted (t : List ℕ) (at i count : ℕ) : Type 0 where
  pub left : count + length (words_in (frames_at t i).here) ≡ length (words_in (frames_at t at).here)
  pub few : count ≤ i

module _ {t : List ℕ} {at i count : ℕ} (c : Counted t at i count) where
  pub counted-all : words_in (frames_at t i).here ≡ [] → count ≡ length (words_in (frames_at t at).here)
  counted-all e = let none : length (words_in (frames_at t i).here) ≡ 0 = ap length e in omega (arith, c.left, none)

  pub counted-more : {s n : ℕ} → WordHere t i s n → Counted t at (s + n) (count + 1)
  counted-more {s} {n} h =
      let one : length (words_in (frames_at t i).here) ≡ suc (length (words_in (frames_at t (s + n)).here)) = ap length (words-here h) in
      record { left = omega (arith, c.left, one); few = omega (arith, c.few, h.ahead) }
