-- `body_writer::write_relation` meets its contract: the body is that of the items passed. Assumes nothing.
use mathlib.Core.Path.{◌≡◌}
use lib.ListN.{length}
use Prim.Native.Nat.{ℕ, ◌-◌}
use mathlib.Core.List.{List, []}
use Rattle.byte_slices.specs.Parts.{put}
use Rattle.code_reader.proofs.Items.{items}
use Rattle.policy.specs.Statements.{Relation, Policy}
use Rattle.code_reader.proofs.Passes.{Through}
use Rattle.body_writer.proofs.RelationBodies.{Asked, body_of}
use Rattle.body_writer.proofs.write_relation.Given as goal

abbrev pub invariant-loop-place : goal.invariant-loop-place
invariant-loop-place l =
    (length l.table ≡ length l.initial.table) ×
    ((p : Policy) (k : Relation) (t : List ℕ) → Asked l.code l.from_sets l.to_sets l.at l.many l.width l.size l.tag p k t → l.initial.table ≡ put t l.at (body_of p k l.many l.width [])
    → Through (items p) l.code l.place (λ done left. l.table ≡ put t l.at (body_of p k l.many l.width done)))

abbrev pub decreases-loop-place : goal.decreases-loop-place
decreases-loop-place l = length l.code - l.place
