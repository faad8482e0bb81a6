-- `statement_writer::write_name` meets its contract: a word that names something of the kind, or not. Assumes nothing.
use native.Mathlib.Omega.{arith}
use mathlib.Core.Path.{refl}
use mathlib.Core.List.{[], ◌∷◌}
use mathlib.Core.Option.{none}
use Rattle.items.proofs.Frames.{sees}
use Rattle.items.proofs.Items.{alike}
use Rattle.statement_writer.specs.NameKinds.{first_unit}
use Rattle.statement_writer.proofs.RowNames.{no_word, no_name, one_name}
use borrow.Enum.Refused.{opened}
use Rattle.statement_writer.proofs.write_name.Goals as goal

pub returns-in_default : goal.returns-in_default
returns-in_default c =
    no_word λ env levels. alike (first_unit env _) (λ f. none) _ _ _ (1 ∷ 2 ∷ 3 ∷ []) levels (tt, λ x f g. refl, refl, refl) c.next_item-item.ensures (opened c.in_default.in_default-own.keys2)

pub overflow_add-end : goal.overflow_add-end
overflow_add-end c = omega (arith, (sees c.next_item-item.ensures c.in-Word.is).ahead.3)

pub slice_bounds-name-end : goal.slice_bounds-name-end
slice_bounds-name-end c = omega (arith, (sees c.next_item-item.ensures c.in-Word.is).ahead.3)

pub returns-in_err-unit : goal.returns-in_err-unit
returns-in_err-unit c =
    rw c.from_residual.ensures (no_name (sees c.next_item-item.ensures c.in-Word.is) c.name_unit.ensures c.in_err-unit.was)

pub returns : goal.returns
returns c =
    one_name (sees c.next_item-item.ensures c.in-Word.is) c.name_unit.ensures c.in_ok-unit.was c.put_unit-past.ensures
