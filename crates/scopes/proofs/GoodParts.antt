-- A good part is at least a byte and has no dot, so a good path is one of such parts. Assumes nothing.
use mathlib.Core.Path.{◌≡◌, refl, sym, ap, ◌∙◌}
use mathlib.Core.Bool.{Bool, true, false, not, ◌&&◌, false≢true}
use mathlib.Core.List.{[], ◌∷◌}
use Prim.Native.Nat.{ℕ}
use native.Mathlib.Omega.{arith}
use lib.Dec.{eqb, leb}
use lib.ListN.{length}
use borrow.Author.Tests.{eqb-true, lt-ltb}
use Rattle.lexer.specs.declared.ByteClass.{ByteClass}
use Rattle.lexer.specs.Class.{class_of, starts, goes_on, all_go_on, is_part}
use Rattle.policy.specs.Basics.{Name}
use Rattle.policy.specs.Words.{is_reserved, dotless}
use Rattle.policy.specs.Sound.{is_good_part}
use Rattle.policy.proofs.Lists.{both_true, true-both}
use Rattle.scopes.specs.Path.{is_one_part}

-- a byte of a class other than the dot's is no dot
no-dot : (f : ByteClass → Bool) → f (class_of 46) ≡ false → (b : ℕ) → f (class_of b) ≡ true → not (eqb b 46) ≡ true
no-dot f z b h = by (eqb b 46) refl
  where
    by : (q : Bool) → eqb b 46 ≡ q → not q ≡ true
    by true e = absurd (false≢true (sym z ∙ ap (λ (n : ℕ). f (class_of n)) (sym (eqb-true b 46 e)) ∙ h))
    by false e = refl

no-dots : (w : Name) → all_go_on w ≡ true → dotless w ≡ true
unfolding all_go_on dotless class_of
no-dots [] h = refl
no-dots (b ∷ w) h =
    let q = both_true (goes_on (class_of b)) (all_go_on w) h in
    true-both (not (eqb b 46)) (dotless w) (no-dot goes_on refl b q.0) (no-dots w q.1)

part-is-one : (w : Name) → is_part w ≡ true → is_one_part w ≡ true
unfolding is_part dotless class_of
part-is-one [] h = absurd (false≢true h)
part-is-one (b ∷ w) h =
    let q = both_true (starts (class_of b)) (all_go_on w) h in
    rw (lt-ltb 0 (length (b ∷ w)) (omega arith)) (true-both (not (eqb b 46)) (dotless w) (no-dot starts refl b q.0) (no-dots w q.1))

pub one-part : (w : Name) → is_good_part w ≡ true → is_one_part w ≡ true
one-part w h =
    let short = (both_true (is_part w && leb (length w) 64) (not (is_reserved w)) h).0 in
    part-is-one w (both_true (is_part w) (leb (length w) 64) short).0
