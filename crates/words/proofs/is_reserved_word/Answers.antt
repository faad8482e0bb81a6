-- `words::is_reserved_word` meets its contract: the reserved words have the first numbers. Assumes nothing.
use Prim.Native.Nat.{ℕ}
use mathlib.Core.Path.{◌≡◌, ap, ◌∙◌}
use mathlib.Core.Bool.{◌&&◌}
use native.Mathlib.Omega.{arith}
use borrow.Author.Tests.{lt-ltb}
use lib.Dec.{ltb, leb}
use Rattle.policy.specs.Basics.{Name, is_in}
use Rattle.policy.specs.Words.{reserved}
use Rattle.words.specs.Numbers.{number_of}
use Rattle.words.proofs.Meaning.{reserved-number}
use Rattle.words.proofs.is_reserved_word.Goals as goal

-- what the number of a word says of it
told : (w : Name) (n : ℕ) → n ≡ number_of w → (ltb 0 n && leb n 23) ≡ is_in w reserved
told w n e = ap (λ (k : ℕ). ltb 0 k && leb k 23) e ∙ reserved-number w

told-some : (w : Name) (n : ℕ) → n ≡ number_of w → (n ≡ 0 → ⊥) → leb n 23 ≡ is_in w reserved
told-some w n e some = rw (lt-ltb 0 n (omega (arith, some))) at (told w n e)

pub returns-then-number-eq-OTHER : goal.returns-then-number-eq-OTHER
returns-then-number-eq-OTHER c = rw c.if-number-eq-OTHER.true at (told _ _ c.number_of-number.ensures)

pub returns : goal.returns
returns c = told-some _ _ c.number_of-number.ensures c.if-number-eq-OTHER.false
