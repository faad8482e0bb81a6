-- `body_writer::write_transitions` meets its contract: the transitions of the items passed are written. Assumes nothing.
use mathlib.Core.Path.{◌≡◌}
use lib.ListN.{length}
use Prim.Native.Nat.{◌-◌}
use Rattle.policy.specs.Accepted.{Accepted}
use Rattle.policy.specs.Basics.{gather}
use Rattle.statement_code.specs.Code.{code_of}
use Rattle.code_reader.proofs.Passes.{Through}
use Rattle.policy.specs.Statements.{roles, types, Policy}
use Rattle.code_reader.proofs.Items.{items, move_in}
use Rattle.code_reader.specs.AttributeSets.{final_sets}
use Rattle.body_writer.proofs.TransitionRecords.{bytes_of}
use Rattle.body_writer.specs.WrittenBytes.{Appended}
use Rattle.body_writer.proofs.write_transitions.Given as goal

abbrev pub invariant-loop-place : goal.invariant-loop-place
invariant-loop-place l =
    (length l.table ≡ length l.initial.table) × ((p : Policy) → Accepted p → l.code ≡ code_of p → l.role_sets ≡ final_sets p roles → l.type_sets ≡ final_sets p types
    → Through (items p) l.code l.place (λ done left. Appended (bytes_of p (gather move_in done)) l.initial.table l.at l.table l.to))

abbrev pub decreases-loop-place : goal.decreases-loop-place
decreases-loop-place l = length l.code - l.place
