-- `constraint_writer::write_constraint` meets its contract. It calls itself with one level less. Before each operand and before the close the rows of
-- the operands so far are written (OperandRows's Loop); each row has a byte of the text of its own, so that no count passes what a usize holds.
-- Assumes nothing.
use Prim.Native.Nat.{◌-◌}
use Rattle.constraint_writer.proofs.OperandRows.{Loop}
use lib.ListN.{length}
use Rattle.constraint_writer.proofs.+write_constraint.Given as goal

abbrev pub decreases-write_constraint : goal.decreases-write_constraint
decreases-write_constraint l = l.levels

abbrev pub invariant-loop-inside : goal.invariant-loop-inside
invariant-loop-inside l =
    Loop l.text l.at l.levels l.symbols l.kind l.row l.initial.rows l.i l.n l.count l.need l.rows

abbrev pub decreases-loop-inside : goal.decreases-loop-inside
decreases-loop-inside l = length l.text - l.i
