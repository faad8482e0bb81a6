-- `table_reader::relabel_at` meets its contract: each field is read at its own place. Assumes nothing.
use Prim.Native.Nat.{◌+◌, ◌*◌}
use Rattle.table_reader.proofs.Fields.{relabel-fields}
use Rattle.table_reader.proofs.relabel_at.Goals as goal

pub returns : goal.returns
returns c =
    rw (
      relabel-fields (c.args.start + 4 * c.args.number) c.args.table.now,
      c.u16_at-2.ensures,
      c.u16_at.ensures,
    )
