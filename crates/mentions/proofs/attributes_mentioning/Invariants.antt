-- `mentions::attributes_mentioning` meets its contract: the set holds the rows passed that have k. Assumes nothing.
use mathlib.Core.Path.{◌≡◌}
use Rattle.set_code.specs.Evaluation.{sets_in}
use Rattle.mentions.proofs.ColumnLaws.{filled}
use Rattle.mentions.proofs.attributes_mentioning.Given as goal

abbrev pub invariant-loop-a : goal.invariant-loop-a
invariant-loop-a l = l.out ≡ filled (λ x. sets_in l.rows x l.k) l.a
