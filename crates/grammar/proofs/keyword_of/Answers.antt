-- `grammar::keyword_of` meets its contract: the keywords have the numbers 24 to 39. Assumes nothing.
use mathlib.Core.Path.{◌≡◌, refl}
use mathlib.Core.Bool.{Bool, true, false}
use mathlib.Core.Option.{none}
use Prim.Native.Nat.{ℕ, ◌+◌, ◌≤◌, ◌<◌}
use native.Mathlib.Omega.{arith}
use borrow.Author.Tests.{leb-true, leb-false}
use lib.Dec.{leb}
use Rattle.policy.specs.Basics.{same, lookup}
use Rattle.policy.specs.Words.{reserved, keyword_of}
use Rattle.words.specs.Numbers.{keywords, words, word_of}
use Rattle.words.proofs.Meaning.{stretch, from_on}
use Rattle.grammar.proofs.keyword_of.Goals as goal

below : (n : ℕ) → n ≤ 23 → keyword_of (word_of n) ≡ none
unfolding same lookup reserved keywords words keyword_of
below n h = stretch keyword_of 0 24 none refl n (omega arith) (omega arith)

beyond : (n : ℕ) → 39 < n → keyword_of (word_of n) ≡ none
unfolding same lookup reserved keywords words keyword_of
beyond n h = from_on keyword_of 40 refl n h

-- a number from k on that is not k is from the next on
another : (n k : ℕ) → k ≤ n → (n ≡ k → ⊥) → k + 1 ≤ n
another n k h d = omega (arith, d)

pub returns-in_default : goal.returns-in_default
returns-in_default c = go (leb 24 c.args.number) refl
  where
    go : (b : Bool) → leb 24 c.args.number ≡ b → keyword_of (word_of c.args.number) ≡ none
    go false h = below c.args.number (omega (arith, leb-false 24 c.args.number h))
    go true h =
        let n = c.args.number in
        let other = c.in_default.in_default-own.rest in
        let past-24 = another n 24 (leb-true 24 n h) other.0.0.0.0.0.0.0.0.0.0.0.0.0.0.0.1 in
        let past-25 = another n 25 past-24 other.0.0.0.0.0.0.0.0.0.0.0.0.0.0.1 in
        let past-26 = another n 26 past-25 other.0.0.0.0.0.0.0.0.0.0.0.0.0.1 in
        let past-27 = another n 27 past-26 other.0.0.0.0.0.0.0.0.0.0.0.0.1 in
        let past-28 = another n 28 past-27 other.0.0.0.0.0.0.0.0.0.0.0.1 in
        let past-29 = another n 29 past-28 other.0.0.0.0.0.0.0.0.0.0.1 in
        let past-30 = another n 30 past-29 other.0.0.0.0.0.0.0.0.0.1 in
        let past-31 = another n 31 past-30 other.0.0.0.0.0.0.0.0.1 in
        let past-32 = another n 32 past-31 other.0.0.0.0.0.0.0.1 in
        let past-33 = another n 33 past-32 other.0.0.0.0.0.0.1 in
        let past-34 = another n 34 past-33 other.0.0.0.0.0.1 in
        let past-35 = another n 35 past-34 other.0.0.0.0.1 in
        let past-36 = another n 36 past-35 other.0.0.0.1 in
        let past-37 = another n 37 past-36 other.0.0.1 in
        let past-38 = another n 38 past-37 other.0.1 in
        let past-39 = another n 39 past-38 other.1 in
        beyond n past-39
