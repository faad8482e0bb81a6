-- `table_parts::part_at` meets its contract. Assumes nothing.
use mathlib.Core.Path.{◌∙◌}
use Rattle.table_parts.proofs.ShownLaws.{no_bytes}
use Rattle.table_parts.proofs.part_at.Goals as goal

pub returns-in-Err : goal.returns-in-Err
returns-in-Err c = rw c.in-Err.is (c.part-in-Err.ensures ∙ no_bytes _ _)
