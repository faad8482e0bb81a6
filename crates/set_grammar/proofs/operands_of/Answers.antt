-- `set_grammar::operands_of` meets its contract: all, and or xor, not have the numbers 1, 2 to 4, 5. Assumes nothing.
use mathlib.Core.Path.{◌≡◌, refl, sym}
use Prim.Native.Nat.{ℕ, ◌≤◌, ◌<◌}
use native.Mathlib.Omega.{arith}
use Rattle.policy.specs.Basics.{same, lookup}
use Rattle.policy.specs.Words.{reserved, set_word}
use Rattle.words.specs.Numbers.{keywords, words, word_of}
use Rattle.words.proofs.Meaning.{stretch, from_on}
use Rattle.set_grammar.specs.Starts.{operands_of}
use Rattle.items.specs.declared.Wanted.{Wanted}
use Rattle.set_grammar.proofs.operands_of.Goals as goal

two : (n : ℕ) → 2 ≤ n → n < 5 → operands_of (set_word (word_of n)) ≡ Wanted.Exactly 2
unfolding same lookup reserved keywords words set_word
two n h g = stretch (λ w. operands_of (set_word w)) 2 3 (Wanted.Exactly 2) refl n h g

others : (n : ℕ) → 6 ≤ n → operands_of (set_word (word_of n)) ≡ Wanted.OneOrMore
unfolding same lookup reserved keywords words set_word
others n h = from_on (λ w. operands_of (set_word w)) 6 refl n h

pub returns-in-1 : goal.returns-in-1
unfolding same lookup reserved keywords words word_of set_word
returns-in-1 c = rw c.in-1.is

pub returns-in-5 : goal.returns-in-5
unfolding same lookup reserved keywords words word_of set_word
returns-in-5 c = rw c.in-5.is

pub returns-in-2 : goal.returns-in-2
returns-in-2 c = sym (two c.args.number (omega arith) (omega arith))

pub returns-in_default : goal.returns-in_default
unfolding same lookup reserved keywords words word_of set_word
returns-in_default c =
    let none : c.args.number ≡ 0 = omega arith in
    rw none

pub returns-in_default-2 : goal.returns-in_default-2
returns-in_default-2 c = sym (others c.args.number (omega arith))
