-- `byte_slices::copy` meets its contract. The loop's invariant: the first i bytes of the part are stored, one after the other. Assumes nothing.
use lib.Seq.{sets}
use Rattle.byte_slices.specs.Parts.{part}
use lib.ListN.{length}
use mathlib.Core.Path.{◌≡◌}
use Rattle.byte_slices.proofs.copy.Given as goal

abbrev pub invariant-loop-i : goal.invariant-loop-i
invariant-loop-i l = (length l.table ≡ length l.initial.table) × (l.table ≡ sets l.initial.table l.at (part l.text l.from l.i))
