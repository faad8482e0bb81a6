-- `table_reader::constraint_at` meets its contract: each field is read at its own place. Assumes nothing.
use Prim.Native.Nat.{◌+◌, ◌*◌}
use Rattle.table_reader.proofs.Fields.{constraint-fields}
use Rattle.table_reader.proofs.constraint_at.Goals as goal

pub returns : goal.returns
returns c =
    rw (
      constraint-fields (c.args.start + 10 * c.args.number) c.args.table.now,
      c.u16_at-3.ensures,
      c.u16_at-2.ensures,
      c.u32_at.ensures,
      c.u16_at.ensures,
    )
