-- What a cut of forms at some level leaves, and how a row starts. Assumes nothing.
use mathlib.Core.Path.{◌≡◌, refl, sym, ap, ap₂, ◌∙◌}
use mathlib.Core.Bool.{Bool, true, false}
use Prim.Native.Nat.{ℕ, zero, suc, ◌-◌, ◌≤◌}
use native.Mathlib.Omega.{arith}
use borrow.Author.Tests.{ne_eqb, eq-eqb}
use lib.Dec.{eqb}
use mathlib.Core.List.{List}
use Rattle.lexer.specs.Forms.{Forms, closed, ended, word, part, trim}

module _ (p : ℕ) (f g : Forms) (n : ℕ) where
  -- a part of which a level is left
  pub whole : (n ≡ 0 → ⊥) → trim (part p f g) n ≡ part p (trim f (n - 1)) (trim g n)
  unfolding trim
  whole h = ap (λ (b : Bool). elim b [ true ↦ ended | false ↦ part p (trim f (n - 1)) (trim g n) ]) (ne_eqb n 0 h)

  -- a part of which none is
  pub cut : n ≡ 0 → trim (part p f g) n ≡ ended
  unfolding trim
  cut h = ap (λ (b : Bool). elim b [ true ↦ ended | false ↦ part p (trim f (n - 1)) (trim g n) ]) (eq-eqb n 0 h)

  -- what is false of an end and of every part is false of a part that is cut
  pub cut-or-whole : (q : Forms → Bool) → q ended ≡ false → ((a b : Forms) → q (part p a b) ≡ false) → q (trim (part p f g) n) ≡ false
  unfolding trim
  cut-or-whole q e h = go (eqb n 0)
    where
      go : (b : Bool) → q (elim b [ true ↦ ended | false ↦ part p (trim f (n - 1)) (trim g n) ]) ≡ false
      go true = e
      go false = h (trim f (n - 1)) (trim g n)

-- a part is left whole where a level more than its row needs is left, and its rest is left whole
pub uncut : (p : ℕ) (f g : Forms) (n : ℕ) → trim f n ≡ f → trim g (suc n) ≡ g → trim (part p f g) (suc n) ≡ part p f g
uncut p f g n d e =
    whole p f g (suc n) (λ z. omega arith)
    ∙ ap₂ (part p) (ap (trim f) (omega arith) ∙ d) e

-- ---- a row that is left whole by a cut is left whole by a cut further down

abbrev inner : Forms → Forms
inner closed = closed
inner ended = ended
inner (word s b f) = ended
inner (part p f g) = f

abbrev after : Forms → Forms
after closed = closed
after ended = ended
after (word s b f) = f
after (part p f g) = g

abbrev parted : Forms → ℕ
parted closed = 0
parted ended = 0
parted (word s b f) = 0
parted (part p f g) = 1

pub further-down : (f : Forms) (n m : ℕ) → trim f n ≡ f → n ≤ m → trim f m ≡ f
unfolding trim
further-down closed n m e h = refl
further-down ended n m e h = refl
further-down (word s b f) n m e h = ap (word s b) (further-down f n m (ap after e) h)
further-down (part p f g) zero m e h =
    let z : ◌≡◌ {A = ℕ} 0 1 = ap parted e in
    absurd (omega arith)
further-down (part p f g) (suc n) zero e h = absurd (omega arith)
further-down (part p f g) (suc n) (suc m) e h =
    let w : part p (trim f (suc n - 1)) (trim g (suc n)) ≡ part p f g = sym (whole p f g (suc n) (λ z. omega arith)) ∙ e in
    let k : suc n - 1 ≡ n = omega arith in
    uncut p f g m (further-down f n m (rw k at (ap inner w)) (omega arith)) (further-down g (suc n) (suc m) (ap after w) h)

-- the row starts with a part
abbrev pub starts_part : Forms → Bool
starts_part closed = false
starts_part ended = false
starts_part (word s w f) = false
starts_part (part p f g) = true

-- the parts of two rows that are the same
pub same-words : {s r : ℕ} {v w : List ℕ} {f g : Forms} → word s v f ≡ word r w g → (v ≡ w) × (f ≡ g)
same-words e = (cc, cc)
