-- `set_writer::write_set` meets its contract. It calls itself with one level less; between two operands, what is left of S is in the row at hand.
-- Assumes nothing.
use mathlib.Core.List.{List}
use Prim.Native.Nat.{ℕ, ◌-◌}
use lib.ListN.{length}
use Rattle.set_writer.proofs.SetOperands.{Going}
use Rattle.set_writer.proofs.+write_set.Given as goal

abbrev pub decreases-write_set : goal.decreases-write_set
decreases-write_set l = l.levels

-- what held of the operands where they begin holds of those that are left
abbrev pub invariant-loop-start : goal.invariant-loop-start
invariant-loop-start l =
    (before : List ℕ) → Going l.text l.at l.levels l.symbols l.family before l.to l.initial.i l.initial.code l.initial.u → Going l.text l.at l.levels l.symbols l.family before l.to l.i l.code l.u

abbrev pub decreases-loop-start : goal.decreases-loop-start
decreases-loop-start l = length l.text - l.i
