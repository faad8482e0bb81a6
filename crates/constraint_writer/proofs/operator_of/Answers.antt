-- `constraint_writer::operator_of` meets its contract: eq neq dom domby incomp have the numbers 6 to 10. Assumes nothing.
use mathlib.Core.Path.{refl, sym, ap}
use mathlib.Core.List.{[], ◌∷◌}
use native.Mathlib.Omega.{arith}
use borrow.Author.Tests.{ne_eqb}
use Rattle.policy.specs.Basics.{same, any, every, is_among, lookup}
use Rattle.policy.specs.Words.{reserved, op_of}
use Rattle.words.specs.Numbers.{keywords, words}
use Rattle.words.proofs.Meaning.{agreeing}
use Rattle.constraint_writer.specs.RowFields.{operator_of}
use Rattle.constraint_writer.proofs.WordNumbers.{other-words}
use Rattle.constraint_writer.proofs.operator_of.Goals as goal

pub returns-in_default : goal.returns-in_default
unfolding same lookup reserved keywords words op_of agreeing every is_among any
returns-in_default c =
    sym (ap operator_of (other-words op_of (6 ∷ 7 ∷ 8 ∷ 9 ∷ 10 ∷ []) refl refl refl c.args.number
    (rw (
      ne_eqb c.args.number 6 (omega arith),
      ne_eqb c.args.number 7 (omega arith),
      ne_eqb c.args.number 8 (omega arith),
      ne_eqb c.args.number 9 (omega arith),
      ne_eqb c.args.number 10 (omega arith),
    ))))
