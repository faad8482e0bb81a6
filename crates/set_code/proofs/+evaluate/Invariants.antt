-- `set_code::evaluate` meets its contract. It calls itself on each operand, and the code that is left falls. The loop's invariant: whatever S
-- is at the place, what was read and what is ahead make it. Assumes nothing.
use Prim.Native.Nat.{◌-◌, ℕ, ◌<◌}
use mathlib.Core.List.{List, ◌++◌}
use mathlib.Core.Path.{◌≡◌}
use lib.ListN.{length, drop}
use Rattle.policy.specs.Statements.{Reference, SetExpr}
use Rattle.statement_code.specs.Code.{set_code}
use Rattle.statement_code.specs.Numbered.{Numbered}
use Rattle.set_code.proofs.OperandLoop.{Ahead}
use Rattle.set_code.proofs.+evaluate.Given as goal

abbrev pub decreases-evaluate : goal.decreases-evaluate
decreases-evaluate l = length l.code.now - l.at

abbrev pub invariant-loop-place : goal.invariant-loop-place
invariant-loop-place l =
    (l.at < l.place) × ((e : SetExpr Reference) (rest : List ℕ) → Numbered e → drop l.at l.code ≡ set_code e ++ rest → Ahead l.code l.at l.total l.sets l.operator l.out l.place e rest)

abbrev pub decreases-loop-place : goal.decreases-loop-place
decreases-loop-place l = length l.code - l.place
