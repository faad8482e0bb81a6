-- `statement_writer::write_pair` meets its contract: a name, and a name after it. Assumes nothing.
use mathlib.Core.List.{[], ◌∷◌}
use Rattle.statement_writer.proofs.RowNames.{names-stop, names-then}
use Rattle.statement_writer.proofs.write_pair.Goals as goal

pub returns-in_err-name : goal.returns-in_err-name
returns-in_err-name c = rw c.from_residual.ensures (names-stop (_ ∷ []) (_ ∷ []) c.write_name.ensures c.in_err-name.was)

pub returns : goal.returns
returns c = names-then (_ ∷ []) (_ ∷ []) c.write_name.ensures c.in_ok-name.was c.write_name-2.ensures
