-- `declarations::add_permissions` meets its contract. The loop's invariant: the first names of the row are written, and the others are left.
-- Assumes nothing.
use Prim.Native.Nat.{◌-◌}
use lib.ListN.{length}
use Rattle.lexer.specs.Forms.{frames_at}
use Rattle.name_rows.specs.WordRows.{words_in}
use Rattle.declarations.proofs.NewEntryLaws.{SoFar}
use Rattle.declarations.proofs.add_permissions.Given as goal

abbrev pub invariant-loop-word : goal.invariant-loop-word
invariant-loop-word l =
    SoFar l.initial.symbols l.symbols l.end l.first (words_in (frames_at l.text l.at).here) (words_in (frames_at l.text l.i).here) l.past l.place

abbrev pub decreases-loop-word : goal.decreases-loop-word
decreases-loop-word l = length l.text - l.i
