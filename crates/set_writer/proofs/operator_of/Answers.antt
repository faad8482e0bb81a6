-- `set_writer::operator_of` meets its contract: all, and, or, xor, not have the numbers 1 to 5, and no other word is an operator. Assumes nothing.
use mathlib.Core.Path.{◌≡◌, refl, sym}
use mathlib.Core.Bool.{Bool, true, false}
use Prim.Native.Nat.{ℕ, ◌<◌}
use native.Mathlib.Omega.{arith}
use borrow.Author.Tests.{ltb-true, ltb-false}
use lib.Dec.{ltb}
use Rattle.policy.specs.Basics.{same, lookup}
use Rattle.policy.specs.Words.{reserved, set_word}
use Rattle.words.specs.Numbers.{keywords, words, word_of}
use Rattle.words.proofs.Meaning.{from_on}
use Rattle.set_writer.specs.Sets.{operator_unit}
use Rattle.set_writer.proofs.operator_of.Goals as goal

-- the words past the operators
others : (n : ℕ) → 5 < n → operator_unit (set_word (word_of n)) ≡ 2053
unfolding same lookup reserved keywords words set_word
others n h = from_on (λ w. operator_unit (set_word w)) 6 refl n h

-- a word that is not in the table
other : (n : ℕ) → n ≡ 0 → operator_unit (set_word (word_of n)) ≡ 2053
unfolding same lookup reserved keywords words word_of set_word
other n h = rw h

pub returns-in_default : goal.returns-in_default
returns-in_default c = go (ltb 5 n) refl
  where
    n : ℕ
    n = c.args.number

    go : (b : Bool) → ltb 5 n ≡ b → 2053 ≡ operator_unit (set_word (word_of n))
    go true e = sym (others n (ltb-true 5 n e))
    go false e =
        let h = ltb-false 5 n e in
        sym (other n (omega arith))
