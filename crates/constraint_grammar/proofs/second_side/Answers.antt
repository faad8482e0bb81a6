-- `constraint_grammar::second_side` meets its contract. Assumes nothing.
use mathlib.Core.Path.{refl, sym, ap, ◌∙◌}
use mathlib.Core.Bool.{false}
use mathlib.Core.List.{[], ◌∷◌}
use Rattle.constraint_grammar.specs.Comparisons.{second_side}
use Rattle.items.proofs.Items.{sees, no_word, alike-here}
use Rattle.items.proofs.Rows.{refuse, after-word}
use Rattle.constraint_grammar.proofs.second_side.Goals as goal

pub returns-in_default : goal.returns-in_default
returns-in_default c =
    refuse (alike-here (second_side _ _ _) (λ f. false) _ _ _ (1 ∷ 2 ∷ 3 ∷ []) (tt, λ x f g. refl, refl, refl) c.next_item.ensures (no_word _ c.in_default.not-Word))

pub is_name-named-requires : goal.is_name-named-requires
is_name-named-requires c = (sees c.next_item.ensures c.in-Word.is).ahead.3

pub returns-then-not-compares : goal.returns-then-not-compares
returns-then-not-compares c =
    let l = sees c.next_item.ensures c.in-Word.is in
    let bad = sym (c.compares.ensures _ l.ahead.2 c.is_name-named.ensures) ∙ c.if-not-compares.true in
    refuse (ap (second_side _ _ _) l.here ∙ rw bad)

pub returns : goal.returns
returns c =
    let l = sees c.next_item.ensures c.in-Word.is in
    let good = sym (c.compares.ensures _ l.ahead.2 c.is_name-named.ensures) ∙ c.if-not-compares.false in
    after-word l (ap (second_side _ _ _) l.here ∙ rw good) c.close_form.ensures
