-- `clashes::clashes_earlier` meets its contract: none of the items passed clashes. Assumes nothing.
use Prim.Native.Nat.{◌-◌}
use mathlib.Core.Path.{◌≡◌}
use lib.ListN.{length}
use Rattle.bitset.specs.Relations.{relation}
use Rattle.policy.specs.Accepted.{Accepted}
use Rattle.policy.specs.Meaning.{final}
use Rattle.policy.specs.Statements.{roles, types, Policy, Transition}
use Rattle.statement_code.specs.Code.{code_of}
use Rattle.clashes.specs.Clashes.{Codes, Segment}
use Rattle.clashes.proofs.ClashLaws.{Apart}
use Rattle.code_reader.proofs.Passes.{Through}
use Rattle.code_reader.proofs.Items.{items}
use Rattle.clashes.proofs.clashes_earlier.Given as goal

abbrev pub invariant-loop-at : goal.invariant-loop-at
invariant-loop-at l =
    (p part : Policy) (t : Transition) → Accepted p → Segment p part → l.earlier ≡ code_of part → Codes p t l.later
    → l.role_sets ≡ relation 64 64 (final p roles) → l.type_sets ≡ relation 64 64 (final p types) → Through (items part) l.earlier l.at (Apart p t)

abbrev pub decreases-loop-at : goal.decreases-loop-at
decreases-loop-at l = length l.earlier - l.at
