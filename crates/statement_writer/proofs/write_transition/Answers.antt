-- `statement_writer::write_transition` meets its contract: the head, two references, the class and the new role. Assumes nothing.
use mathlib.Core.Path.{refl}
use mathlib.Core.List.{[], ◌∷◌}
use Rattle.std.specs.Prelude.{None, Some}
use Rattle.policy.specs.declared.Family.{Family}
use Rattle.statement_writer.specs.declared.Kind.{Kind}
use Rattle.statement_writer.proofs.RowNames.{names-stop, names-then}
use Rattle.statement_writer.proofs.StatementUnits.{transition-coded}
use Rattle.statement_writer.proofs.write_transition.Goals as goal

pub returns-in_err-names : goal.returns-in_err-names
returns-in_err-names c =
    rw c.from_residual.ensures
    (transition-coded None refl c.write_head-u.ensures
    (names-stop (Kind.Reference Family.Roles ∷ Kind.Reference Family.Types ∷ []) (Kind.Class ∷ Kind.Role ∷ []) c.write_pair.ensures c.in_err-names.was))

pub returns-in_err-others : goal.returns-in_err-others
returns-in_err-others c =
    rw c.from_residual-in_err-others.ensures
    (transition-coded None c.in_err-others.was c.write_head-u.ensures
    (names-then (Kind.Reference Family.Roles ∷ Kind.Reference Family.Types ∷ []) (Kind.Class ∷ Kind.Role ∷ []) c.write_pair.ensures
    c.in_ok-names.was c.write_pair-2.ensures))

pub returns : goal.returns
returns c =
    transition-coded (Some _) c.in_ok-others.was c.write_head-u.ensures
    (names-then (Kind.Reference Family.Roles ∷ Kind.Reference Family.Types ∷ []) (Kind.Class ∷ Kind.Role ∷ []) c.write_pair.ensures
    c.in_ok-names.was c.write_pair-2.ensures)
