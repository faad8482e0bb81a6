-- `constraint_grammar::joins` meets its contract: and, or, not have the numbers 2, 3, 5. Assumes nothing.
use mathlib.Core.Path.{◌≡◌, refl, sym, ap, ◌∙◌}
use mathlib.Core.Bool.{◌||◌}
use Prim.Native.Nat.{ℕ, ◌<◌, ◌≤◌}
use native.Mathlib.Omega.{arith}
use borrow.Author.Tests.{ne_eqb}
use lib.Dec.{eqb}
use Rattle.std.specs.Prelude.{Some, None}
use Rattle.policy.specs.Basics.{same, lookup}
use Rattle.policy.specs.Words.{reserved, expression_word}
use Rattle.words.specs.Numbers.{keywords, words, word_of}
use Rattle.words.proofs.Meaning.{agreeing, agree, stretch}
use Rattle.items.specs.Reads.{is_some}
use Rattle.items.proofs.Counts.{none_of}
use Rattle.constraint_grammar.specs.Operators.{joins_of}
use Rattle.constraint_grammar.proofs.joins.Goals as goal

numbers : (n : ℕ) → eqb n 5 || (eqb n 2 || eqb n 3) ≡ is_some (expression_word (word_of n))
unfolding same lookup reserved keywords words expression_word agreeing
numbers n =
    agree (λ w. is_some (expression_word w)) (λ n. eqb n 5 || (eqb n 2 || eqb n 3)) refl
    (λ n h. rw (ne_eqb n 5 (λ z. omega arith), ne_eqb n 2 (λ z. omega arith), ne_eqb n 3 (λ z. omega arith))) n

two : (n : ℕ) → 2 ≤ n → n < 4 → joins_of (expression_word (word_of n)) ≡ Some 2
unfolding same lookup reserved keywords words expression_word
two n h g = stretch (λ w. joins_of (expression_word w)) 2 2 (Some 2) refl n h g

others : (n : ℕ) → (n ≡ 5 → ⊥) → (n ≡ 2 → ⊥) → (n ≡ 3 → ⊥) → None ≡ joins_of (expression_word (word_of n))
others n a b d = sym (ap joins_of (none_of (expression_word (word_of n)) (sym (numbers n) ∙ rw (ne_eqb n 5 a, ne_eqb n 2 b, ne_eqb n 3 d))))

pub returns-in-5 : goal.returns-in-5
unfolding same lookup reserved keywords words word_of expression_word
returns-in-5 c = rw c.in-5.is

pub returns-in-2 : goal.returns-in-2
returns-in-2 c = sym (two c.args.number (omega arith) (omega arith))

pub returns-in_default : goal.returns-in_default
returns-in_default c = others c.args.number (λ z. omega arith) (λ z. omega arith) (λ z. omega arith)

pub returns-in_default-2 : goal.returns-in_default-2
returns-in_default-2 c = others c.args.number (λ z. omega arith) (λ z. omega arith) (λ z. omega arith)
