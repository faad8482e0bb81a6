-- `body_writer::write_sets` meets its contract: the sets of the attributes passed are written. Assumes nothing.
use mathlib.Core.Path.{◌≡◌}
use lib.ListN.{length}
use Rattle.code_reader.specs.AttributeSets.{final_sets}
use Rattle.bitset.specs.Relations.{relation}
use Rattle.policy.specs.Meaning.{final}
use Rattle.policy.specs.Statements.{Family, Policy}
use Rattle.policy.specs.Image as image
use Rattle.body_writer.specs.WrittenBytes.{Appended}
use Rattle.body_writer.proofs.write_sets.Given as goal

abbrev pub invariant-loop-a : goal.invariant-loop-a
invariant-loop-a l =
    (length l.table ≡ length l.initial.table) ×
    ((p : Policy) (f : Family) → l.sets ≡ final_sets p f → l.width ≡ image.width f → Appended (relation l.a l.width (final p f)) l.initial.table l.at l.table l.to)
