-- `clashes::first_transition` meets its contract: none of the items passed is a transition. Assumes nothing.
use Prim.Native.Nat.{◌-◌}
use mathlib.Core.Path.{◌≡◌}
use lib.ListN.{length}
use Rattle.policy.specs.Accepted.{Accepted}
use Rattle.policy.specs.Statements.{Policy}
use Rattle.statement_code.specs.Code.{code_of}
use Rattle.code_reader.proofs.Items.{items}
use Rattle.code_reader.proofs.Passes.{Through}
use Rattle.clashes.proofs.SegmentLaws.{Still}
use Rattle.clashes.proofs.first_transition.Given as goal

abbrev pub invariant-loop-at : goal.invariant-loop-at
invariant-loop-at l = (p : Policy) → Accepted p → l.code ≡ code_of p → Through (items p) l.code l.at Still

abbrev pub decreases-loop-at : goal.decreases-loop-at
decreases-loop-at l = length l.code - l.at
