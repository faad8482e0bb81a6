-- Parts of one width: laid end to end they are cut apart again, and only so are they found. By induction on the parts. Assumes nothing.
use Prim.Native.Nat.{ℕ, zero, suc, ◌+◌, ◌*◌, ◌/◌}
use native.Mathlib.Omega.{arith}
use native.Mathlib.Nat.{suc-mul}
use mathlib.Core.Path.{◌≡◌, refl, sym, ap, ap₂, ◌∙◌, subst}
use mathlib.Core.List.{List, [], ◌∷◌, ◌++◌}
use mathlib.Core.Option.{some}
use lib.Dec.{eqb}
use lib.ListN.{length, take, drop, length-append, length-drop, take-append-drop}
use lib.Seq.{take_at, drop_at, length-take-le}
use borrow.Author.Tests.{eq-eqb, eqb-true}
use Rattle.bitset.specs.Relations.{joined}
use Rattle.policy.specs.Basics.{All}
use Rattle.policy.specs.Sound.{pieces, exactly}
use Rattle.policy.proofs.Options.{given-some}

-- each of them w bytes
abbrev pub Wide : ℕ → List (List ℕ) → Type 0
Wide w ss = All (λ (s : List ℕ). length s ≡ w) ss

one_more : (n w : ℕ) → w + n * w ≡ suc n * w
one_more n w = omega (arith, suc-mul n w)

pub wide-length : (w : ℕ) (ss : List (List ℕ)) → Wide w ss → length (joined ss) ≡ length ss * w
unfolding joined
wide-length w [] h = omega arith
wide-length w (s ∷ ss) h = length-append s (joined ss) ∙ ap₂ ◌+◌ h.0 (wide-length w ss h.1) ∙ one_more (length ss) w

pieces-back : (w : ℕ) (ss : List (List ℕ)) → Wide w ss → pieces (length ss) w (joined ss) ≡ ss
unfolding pieces joined
pieces-back w [] h = refl
pieces-back w (s ∷ ss) h = rw (take_at s (joined ss) w h.0, drop_at s (joined ss) w h.0) (ap {B = List (List ℕ)} (λ r. s ∷ r) (pieces-back w ss h.1))

-- so many parts, one after the other, are cut apart again
pub exactly-back : (n w : ℕ) (ss : List (List ℕ)) → length ss ≡ n → Wide w ss → exactly n w (joined ss) ≡ some ss
exactly-back n w ss e h = subst (λ (k : ℕ). exactly k w (joined ss) ≡ some ss) e
    (rw (wide-length w ss h, eq-eqb (length ss * w) (length ss * w) refl, pieces-back w ss h))

-- as many as there are
pub exactly-all : (w : ℕ) → ((k : ℕ) → k * w / w ≡ k) → (ss : List (List ℕ)) → Wide w ss → exactly (length (joined ss) / w) w (joined ss) ≡ some ss
exactly-all w d ss h = exactly-back (length (joined ss) / w) w ss (sym (ap (λ (k : ℕ). k / w) (wide-length w ss h) ∙ d (length ss))) h

-- what parts of t are: so many, each of this width, and t one after the other
pub record Parts (n w : ℕ) (t : List ℕ) (ss : List (List ℕ)) : Type 0 where
  pub whole : joined ss ≡ t
  pub many : length ss ≡ n
  pub wide : Wide w ss

pieces-only : (n w : ℕ) (t : List ℕ) → length t ≡ n * w → Parts n w t (pieces n w t)
unfolding pieces joined
pieces-only zero w [] e = record { whole = refl; many = refl; wide = tt }
pieces-only zero w (x ∷ t) e = absurd (omega arith)
pieces-only (suc n) w t e =
    let after : Parts n w (drop w t) (pieces n w (drop w t)) = pieces-only n w (drop w t) (length-drop w t ∙ omega (arith, e, suc-mul n w)) in
    record {
      whole = ap (λ (r : List ℕ). take w t ++ r) after.whole ∙ take-append-drop w t;
      many = ap suc after.many;
      wide = (length-take-le w t (omega (arith, e, suc-mul n w)), after.wide);
    }

pub exactly-only : (n w : ℕ) (t : List ℕ) (ss : List (List ℕ)) → exactly n w t ≡ some ss → Parts n w t ss
exactly-only n w t ss h =
    let g = given-some (eqb (length t) (n * w)) (pieces n w t) ss h in
    subst (Parts n w t) g.1 (pieces-only n w t (eqb-true (length t) (n * w) g.0))
