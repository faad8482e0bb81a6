-- `table_writer::put_u32` meets its contract: where there is room the four bytes are put. Assumes nothing.
use native.Mathlib.Omega.{arith}
use Rattle.table_laws.proofs.LittleEndian.{le-length}
use Rattle.table_writer.proofs.HeaderLaws.{no_room}
use Rattle.table_writer.proofs.put_u32.Goals as goal

pub returns-then-table-lt4 : goal.returns-then-table-lt4
returns-then-table-lt4 c = no_room (omega (arith, le-length 4 c.args.n))

pub returns-then-table-at : goal.returns-then-table-at
returns-then-table-at c = no_room (omega (arith, le-length 4 c.args.n))

pub returns : goal.returns
returns c = record { written = λ room. c.put4.ensures }
