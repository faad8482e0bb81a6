-- `mentions::is_acyclic` meets its contract: none of the attributes passed is in its own row. Assumes nothing.
use mathlib.Core.Bool.{true, not}
use mathlib.Core.Path.{◌≡◌}
use Rattle.bitset.specs.Sets.{all_below}
use Rattle.set_code.specs.Evaluation.{sets_in}
use Rattle.mentions.proofs.is_acyclic.Given as goal

abbrev pub invariant-loop-a : goal.invariant-loop-a
invariant-loop-a l = true ≡ all_below l.a (λ x. not (sets_in l.rows x x))
