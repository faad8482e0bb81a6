-- `table_reader::row_at` meets its contract: each field is read at its own place. Assumes nothing.
use Prim.Native.Nat.{◌+◌, ◌*◌}
use Rattle.table_reader.proofs.Fields.{row-fields}
use Rattle.table_reader.proofs.row_at.Goals as goal

pub returns : goal.returns
returns c =
    rw (
      row-fields (c.args.start + 6 * c.args.number) c.args.table.now,
      c.u16_at.ensures,
      c.byte-3.ensures,
      c.byte-2.ensures,
      c.byte.ensures,
    )
