-- Dots: whether a word has one, and the parts of a word one after the other. Assumes nothing.
use mathlib.Core.Path.{◌≡◌, refl, sym, ap, ◌∙◌}
use mathlib.Core.Bool.{Bool, true, false, not, ◌&&◌}
use mathlib.Core.List.{List, [], ◌∷◌}
use Prim.Native.Nat.{ℕ, zero, suc, ◌+◌, ◌-◌, ◌≤◌, ◌<◌}
use native.Mathlib.Nat.{zero-add}
use native.Mathlib.Omega.{arith}
use borrow.Author.Tests.{eq-eqb, ne_eqb}
use lib.Dec.{eqb}
use lib.ListN.{length, take, drop, drop_of_length-le}
use lib.Seq.{drop-drop}
use Rattle.lexer.specs.Class.{is, class_of, is_dot, on_first, parts}
use Rattle.lexer.specs.Answers.{first_from}
use Rattle.lexer.proofs.Ends.{lies, bytes-there}
use Rattle.lexer.proofs.Names.{dot-byte}
use Rattle.policy.specs.Basics.{Name, any, is_in}
use Rattle.policy.specs.Words.{reserved, dotless}
use Rattle.words.specs.Parts.{part_end}

-- ---- a word without dots

-- a word has no dot exactly if the first one is past its end
no-dot : (w : Name) (at : ℕ) → dotless w ≡ eqb (first_from w is_dot at) (at + length w)
unfolding dotless first_from
no-dot [] at = sym (eq-eqb at (at + 0) (omega arith))
no-dot (b ∷ w) at = go (is "." b) (dot-byte b) (no-dot w (at + 1))
  where
    go : (q : Bool) → is_dot (class_of b) ≡ q → dotless w ≡ eqb (first_from w is_dot (at + 1)) (at + 1 + length w)
        → not q && dotless w ≡ eqb (elim (is_dot (class_of b)) [ true ↦ at | false ↦ first_from w is_dot (at + 1) ]) (at + suc (length w))
    go true d i = rw d (sym (ne_eqb at (at + suc (length w)) (λ z. omega arith)))
    go false d i = rw d (i ∙ ap (eqb (first_from w is_dot (at + 1))) (let e : at + 1 + length w ≡ at + suc (length w) = omega arith in e))

pub dotless-by : (w : Name) → eqb (part_end w 0) (length w) ≡ dotless w
dotless-by w = sym (no-dot w 0 ∙ ap (eqb (part_end w 0)) (zero-add (length w)))

-- ---- the parts of a word, one after the other

-- the parts after the dot that some bytes start with, or none where there are no bytes
abbrev behind : List ℕ → List Name
behind [] = []
behind (b ∷ bs) = parts bs

-- the first part ends before the first dot
split : (bs : List ℕ) (at n : ℕ) → first_from bs is_dot at ≡ at + n → parts bs ≡ take n bs ∷ behind (drop n bs)
unfolding first_from parts
split [] at zero e = refl
split [] at (suc n) e = refl
split (b ∷ bs) at n e = go (is_dot (class_of b)) n e (λ m f. split bs (at + 1) m f)
  where
    go : (q : Bool) (n : ℕ) → elim q [ true ↦ at | false ↦ first_from bs is_dot (at + 1) ] ≡ at + n
        → ((m : ℕ) → first_from bs is_dot (at + 1) ≡ at + 1 + m → parts bs ≡ take m bs ∷ behind (drop m bs))
        → elim q [ true ↦ [] ∷ parts bs | false ↦ on_first b (parts bs) ] ≡ take n (b ∷ bs) ∷ behind (drop n (b ∷ bs))
    go true zero f i = refl
    go true (suc n) f i = absurd (omega arith)
    go false zero f i = absurd (omega (arith, (lies bs is_dot (at + 1)).0))
    go false (suc n) f i = ap (on_first b) (i n (omega arith))

module _ (w : Name) (at : ℕ) where
  abbrev end : ℕ
  end = part_end w at

  pub end_after : at ≤ end
  end_after = (lies (drop at w) is_dot at).0

  part_then : parts (drop at w) ≡ take (end - at) (drop at w) ∷ behind (drop end w)
  part_then =
      let h = end_after in
      let d : at + (end - at) ≡ end = omega arith in
      split (drop at w) at (end - at) (sym d)
      ∙ ap (λ (l : List ℕ). take (end - at) (drop at w) ∷ behind l) (drop-drop (end - at) at w ∙ ap (λ (n : ℕ). drop n w) d)

  -- the parts of a word from a place on are the part that ends next and those after its dot, or that part alone where the word ends with it
  one_more : end < length w → parts (drop at w) ≡ take (end - at) (drop at w) ∷ parts (drop (end + 1) w)
  one_more h = part_then ∙ ap (λ (l : List ℕ). take (end - at) (drop at w) ∷ behind l) (bytes-there w end h)

  last_one : length w ≤ end → parts (drop at w) ≡ take (end - at) (drop at w) ∷ []
  last_one h = part_then ∙ ap (λ (l : List ℕ). take (end - at) (drop at w) ∷ behind l) (drop_of_length-le w h)

-- one of the parts from a place on is reserved
abbrev pub reserved_from : Name → ℕ → Bool
reserved_from w at = any (λ p. is_in p reserved) (parts (drop at w))

module _ (w : Name) (at end : ℕ) (e : end ≡ part_end w at) where
  pub part-reserved : is_in (take (end - at) (drop at w)) reserved ≡ true → reserved_from w at ≡ true
  unfolding any
  part-reserved h = rw (part_then w at, ← e, h)

  pub none-reserved : is_in (take (end - at) (drop at w)) reserved ≡ false → length w ≤ end → reserved_from w at ≡ false
  unfolding any
  none-reserved h l = rw (last_one w at (rw e at l), ← e, h)

  pub reserved-behind : is_in (take (end - at) (drop at w)) reserved ≡ false → end < length w → reserved_from w at ≡ reserved_from w (end + 1)
  unfolding any
  reserved-behind h l = rw (one_more w at (rw e at l), ← e, h)
