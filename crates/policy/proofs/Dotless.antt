-- A word without a dot is its only part. Assumes nothing.
use mathlib.Core.Path.{◌≡◌, refl, ap, ◌∙◌}
use mathlib.Core.Bool.{Bool, true, false, not, or-false}
use mathlib.Core.List.{[], ◌∷◌}
use Prim.Native.Nat.{ℕ}
use borrow.Author.Tests.{not-true}
use Rattle.lexer.specs.Class.{is, class_of, is_dot, on_first, parts}
use Rattle.lexer.proofs.Names.{dot-byte}
use Rattle.policy.specs.Basics.{Name, any, is_in}
use Rattle.policy.specs.Words.{reserved, is_reserved, dotless}
use Rattle.policy.proofs.Lists.{both_true}

-- the first byte of bytes without a dot, and the others
pub first-and-rest : (b : ℕ) (bs : Name) → dotless (b ∷ bs) ≡ true → (is_dot (class_of b) ≡ false) × (dotless bs ≡ true)
unfolding dotless
first-and-rest b bs e =
    let p = both_true (not (is "." b)) (dotless bs) e in
    (dot-byte b ∙ not-true (is "." b) p.0, p.1)

pub dotless-part : (w : Name) → dotless w ≡ true → parts w ≡ w ∷ []
unfolding parts
dotless-part [] e = refl
dotless-part (b ∷ bs) e =
    let p = first-and-rest b bs e in
    ap (λ (q : Bool). elim q [ true ↦ [] ∷ parts bs | false ↦ on_first b (parts bs) ]) p.0 ∙ ap (on_first b) (dotless-part bs p.1)

-- and reserved where it is listed so
pub reserved-alone : (w : Name) → dotless w ≡ true → is_reserved w ≡ is_in w reserved
unfolding is_reserved any
reserved-alone w e = rw (dotless-part w e) (or-false (is_in w reserved))
