-- `constraint_grammar::both_sides` meets its contract. Assumes nothing.
use mathlib.Core.Path.{refl, ap, ◌∙◌}
use mathlib.Core.Bool.{false}
use mathlib.Core.List.{[], ◌∷◌}
use Rattle.constraint_grammar.specs.Comparisons.{both_sides}
use Rattle.items.proofs.Items.{sees, no_word, alike-here}
use Rattle.items.proofs.Rows.{refuse, after-word}
use Rattle.constraint_grammar.proofs.both_sides.Goals as goal

pub returns-in_default : goal.returns-in_default
returns-in_default c =
    refuse (alike-here (both_sides _ _) (λ f. false) _ _ _ (1 ∷ 2 ∷ 3 ∷ []) (tt, λ x f g. refl, refl, refl) c.next_item.ensures (no_word _ c.in_default.not-Word))

pub returns : goal.returns
returns c =
    let l = sees c.next_item.ensures c.in-Word.is in
    after-word l (ap (both_sides _ _) l.here ∙ rw l.ahead.2) c.second_side.ensures
