-- "no bit .. names something undeclared": the bytes of a set whose rule holds of declared things alone are within the declared. Assumes nothing.
use Prim.Native.Nat.{ℕ, ◌*◌, ◌<◌}
use mathlib.Core.Path.{◌≡◌, refl, ap, ◌∙◌}
use mathlib.Core.Bool.{Bool, true, false, not, ◌||◌, or-true}
use lib.Dec.{ltb}
use borrow.Author.Tests.{lt-ltb}
use Rattle.bitset.specs.Sets.{set_of, within}
use Rattle.bitset.proofs.AllLaws.{all_below-of, within-set_of}

pub within-by-rule : (total w : ℕ) (f : ℕ → Bool) → ((n : ℕ) → f n ≡ true → n < total) → within total (set_of w f) ≡ true
within-by-rule total w f h =
    within-set_of total w f ∙ all_below-of (8 * w) (λ n. not (f n) || ltb n total) (λ n l. by n (f n) refl)
  where
    by : (n : ℕ) (b : Bool) → f n ≡ b → (not (f n) || ltb n total) ≡ true
    by n true q = ap (λ (b : Bool). not (f n) || b) (lt-ltb n total (h n q)) ∙ or-true (not (f n))
    by n false q = ap (λ (b : Bool). not b || ltb n total) q
