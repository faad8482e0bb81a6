-- `clashes::first_clash` meets its contract: the answer is still to be found among the items ahead. Assumes nothing.
use Prim.Native.Nat.{◌-◌}
use mathlib.Core.Path.{◌≡◌}
use lib.ListN.{length}
use Rattle.bitset.specs.Relations.{relation}
use Rattle.policy.specs.Accepted.{Accepted}
use Rattle.policy.specs.Meaning.{final}
use Rattle.policy.specs.Statements.{roles, types, Policy}
use Rattle.statement_code.specs.Code.{code_of}
use Rattle.clashes.specs.Clashes.{Segment}
use Rattle.clashes.proofs.ClashLaws.{Looks}
use Rattle.code_reader.proofs.Passes.{Through}
use Rattle.code_reader.proofs.Items.{items}
use Rattle.clashes.proofs.first_clash.Given as goal

abbrev pub invariant-loop-at : goal.invariant-loop-at
invariant-loop-at l =
    (p part : Policy) → Accepted p → Segment p part → l.code ≡ code_of part → l.role_sets ≡ relation 64 64 (final p roles) → l.type_sets ≡ relation 64 64 (final p types)
    → Through (items part) l.code l.at (Looks p part)

abbrev pub decreases-loop-at : goal.decreases-loop-at
decreases-loop-at l = length l.code - l.at
