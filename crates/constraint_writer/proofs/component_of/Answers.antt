-- `constraint_writer::component_of` meets its contract: the components have the numbers 11 to 19. Assumes nothing.
use mathlib.Core.Path.{refl, sym, ap}
use mathlib.Core.List.{[], ◌∷◌}
use native.Mathlib.Omega.{arith}
use borrow.Author.Tests.{ne_eqb}
use Rattle.policy.specs.Basics.{same, any, every, is_among, lookup}
use Rattle.policy.specs.Words.{reserved, three_sides, component_of}
use Rattle.words.specs.Numbers.{keywords, words}
use Rattle.words.proofs.Meaning.{agreeing}
use Rattle.constraint_writer.specs.RowFields.{code_of}
use Rattle.constraint_writer.proofs.WordNumbers.{other-words}
use Rattle.constraint_writer.proofs.component_of.Goals as goal

pub returns-in_default : goal.returns-in_default
unfolding same lookup reserved keywords words component_of agreeing every is_among any
returns-in_default c =
    sym (ap code_of (other-words (component_of three_sides) (11 ∷ 12 ∷ 14 ∷ 15 ∷ 17 ∷ 18 ∷ 13 ∷ 16 ∷ 19 ∷ []) refl refl refl c.args.number
    (rw (
      ne_eqb c.args.number 11 (omega arith),
      ne_eqb c.args.number 12 (omega arith),
      ne_eqb c.args.number 14 (omega arith),
      ne_eqb c.args.number 15 (omega arith),
      ne_eqb c.args.number 17 (omega arith),
      ne_eqb c.args.number 18 (omega arith),
      ne_eqb c.args.number 13 (omega arith),
      ne_eqb c.args.number 16 (omega arith),
      ne_eqb c.args.number 19 (omega arith),
    ))))
