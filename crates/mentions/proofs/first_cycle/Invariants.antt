-- `mentions::first_cycle` meets its contract: the answer is still to be found among the declarations ahead, of attributes from a on. Assumes nothing.
use Prim.Native.Nat.{ℕ, ◌-◌, ◌≤◌}
use mathlib.Core.Bool.{◌&&◌}
use mathlib.Core.Path.{◌≡◌}
use lib.Dec.{ltb}
use lib.ListN.{length}
use Rattle.policy.specs.Faults.{on_cycle}
use Rattle.policy.specs.Accepted.{Accepted}
use Rattle.policy.specs.Statements.{Family, Policy}
use Rattle.statement_code.specs.Code.{code_of, attribute_tag}
use Rattle.set_code.specs.Evaluation.{sets_in}
use Rattle.code_reader.proofs.Items.{items}
use Rattle.code_reader.proofs.Passes.{Through}
use Rattle.mentions.proofs.CycleSearch.{Seeks}
use Rattle.mentions.proofs.first_cycle.Given as goal

abbrev pub invariant-loop-at : goal.invariant-loop-at
invariant-loop-at l =
    (l.a ≤ l.at) × ((p : Policy) (f : Family) → Accepted p → l.tag ≡ attribute_tag f → l.code ≡ code_of p → ((x : ℕ) → (ltb x 64 && sets_in l.rows x x) ≡ on_cycle p f x)
    → Through (items p) l.code l.at (Seeks p f l.a))

abbrev pub decreases-loop-at : goal.decreases-loop-at
decreases-loop-at l = length l.code - l.at
