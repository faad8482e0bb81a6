-- `items::close_form` meets its contract. Assumes nothing.
use mathlib.Core.Path.{refl, ap}
use mathlib.Core.Bool.{false}
use mathlib.Core.List.{[], ◌∷◌}
use Rattle.items.specs.Reads.{is_closed}
use Rattle.items.proofs.Items.{sees, no_close, alike-here}
use Rattle.items.proofs.Rows.{give, refuse}
use Rattle.items.proofs.close_form.Goals as goal

pub returns-in_default : goal.returns-in_default
returns-in_default c =
    refuse (alike-here is_closed (λ f. false) _ _ _ (0 ∷ 1 ∷ 3 ∷ []) (λ s b f. refl, λ x f g. refl, tt, refl) c.next_item.ensures (no_close _ c.in_default.not-Close))

pub returns : goal.returns
returns c =
    let l = sees c.next_item.ensures c.in-Close.is in
    give (ap is_closed l.here) l.end l.ahead.0 l.ahead.1
