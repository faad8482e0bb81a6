-- `table_writer::put_pair` meets its contract: two numbers, one after the other. Assumes nothing.
use native.Mathlib.Omega.{arith}
use Rattle.table_laws.proofs.LittleEndian.{le-length}
use Rattle.table_writer.proofs.HeaderLaws.{puts_then, no_room, pair-length}
use Rattle.table_writer.proofs.put_pair.Goals as goal

pub returns-then-table-at : goal.returns-then-table-at
returns-then-table-at c h = no_room (omega (arith, pair-length c.args.start c.args.end))

pub returns-then-end-start : goal.returns-then-end-start
returns-then-end-start c h = absurd (omega arith)

pub returns : goal.returns
returns c h =
    puts_then c.put_u32.ensures c.put_u32-2.ensures
    (omega (arith, le-length 4 c.args.start))
