-- `items::parts_form` meets its contract: what is left of the row decides. Assumes nothing.
use mathlib.Core.Path.{◌≡◌}
use Prim.Native.Nat.{◌-◌, ◌≤◌}
use lib.ListN.{length}
use Rattle.lexer.specs.Forms.{frames_at}
use Rattle.policy.specs.Grammar.{parts_alone}
use Rattle.items.specs.Looks.{row_end}
use Rattle.items.proofs.parts_form.Given as goal

abbrev pub invariant-loop-next : goal.invariant-loop-next
invariant-loop-next l = (l.at ≤ l.i) × (row_end l.text l.i ≡ row_end l.text l.at) × (parts_alone (frames_at l.text l.i).here ≡ parts_alone (frames_at l.text l.at).here)

abbrev pub decreases-loop-next : goal.decreases-loop-next
decreases-loop-next l = length l.text - l.i
