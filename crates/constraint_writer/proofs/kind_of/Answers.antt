-- `constraint_writer::kind_of` meets its contract: not, and, or have the numbers 5, 2, 3, and no other word is an operator. Assumes nothing.
use mathlib.Core.Path.{refl, sym, ap}
use mathlib.Core.List.{[], ◌∷◌}
use native.Mathlib.Omega.{arith}
use borrow.Author.Tests.{ne_eqb}
use Rattle.policy.specs.Basics.{same, any, every, is_among, lookup}
use Rattle.policy.specs.Words.{reserved, expression_word}
use Rattle.words.specs.Numbers.{keywords, words}
use Rattle.words.proofs.Meaning.{agreeing}
use Rattle.constraint_writer.specs.RowFields.{kind_of}
use Rattle.constraint_writer.proofs.WordNumbers.{other-words}
use Rattle.constraint_writer.proofs.kind_of.Goals as goal

pub returns-in_default : goal.returns-in_default
unfolding same lookup reserved keywords words expression_word agreeing every is_among any
returns-in_default c =
    sym (ap kind_of (other-words expression_word (5 ∷ 2 ∷ 3 ∷ []) refl refl refl c.args.number
    (rw (
      ne_eqb c.args.number 5 (omega arith),
      ne_eqb c.args.number 2 (omega arith),
      ne_eqb c.args.number 3 (omega arith),
    ))))
