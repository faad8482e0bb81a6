-- `table_parts::run_place` meets its contract: as many records as fit into the body. Assumes nothing.
use native.Mathlib.Omega.{arith}
use native.Mathlib.Nat.{lt_of_le_of_lt, div-le_self}
use mathlib.Core.Path.{◌∙◌}
use Rattle.table_parts.proofs.run_place.Goals as goal

pub record_place-requires : goal.record_place-requires
record_place-requires c = (
  omega (arith, c.body_start-start.type_inv),
  lt_of_le_of_lt (div-le_self _ _) (omega (arith, c.body_length-bytes.type_inv)),
  omega (arith, c.requires.1),
)

pub returns : goal.returns
returns c = c.record_place.ensures ∙ rw (c.body_start-start.ensures, c.body_length-bytes.ensures)
