-- `final_sets::round` meets its contract: the rows are those of the items passed. Assumes nothing.
use Prim.Native.Nat.{◌-◌}
use mathlib.Core.Path.{◌≡◌}
use lib.ListN.{length}
use Rattle.policy.specs.Statements.{Family, Policy}
use Rattle.policy.specs.Meaning.{of_s}
use Rattle.policy.specs.Accepted.{Accepted}
use Rattle.statement_code.specs.Code.{code_of, set_tag}
use Rattle.set_code.specs.Evaluation.{sets_in}
use Rattle.code_reader.proofs.Items.{items}
use Rattle.code_reader.proofs.Passes.{Through}
use Rattle.code_reader.proofs.RowLaws.{rows_of}
use Rattle.final_sets.proofs.round.Given as goal

abbrev pub invariant-loop-at : goal.invariant-loop-at
invariant-loop-at l =
    (p : Policy) (f : Family) → Accepted p → l.tag ≡ set_tag f → l.code ≡ code_of p → Through (items p) l.code l.at (λ done left. l.after ≡ rows_of f (of_s l.total (sets_in l.before)) done)

abbrev pub decreases-loop-at : goal.decreases-loop-at
decreases-loop-at l = length l.code - l.at
