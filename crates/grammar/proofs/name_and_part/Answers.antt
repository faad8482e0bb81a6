-- `grammar::name_and_part` meets its contract. Assumes nothing.
use mathlib.Core.Path.{refl, sym, ◌∙◌}
use mathlib.Core.Bool.{false}
use mathlib.Core.List.{[], ◌∷◌}
use Rattle.grammar.specs.Shapes.{name_and_part}
use Rattle.items.proofs.Items.{sees, no_word, by_word, alike}
use Rattle.items.proofs.Rows.{refuse, after-word}
use Rattle.grammar.proofs.name_and_part.Goals as goal

pub returns-in_default : goal.returns-in_default
returns-in_default c =
    let kind = c.args.kind in
    refuse (alike (name_and_part kind _) (λ f. false) _ _ _ (1 ∷ 2 ∷ 3 ∷ []) _ (tt, λ x f g. refl, refl, refl) c.next_item.ensures (no_word _ c.in_default.not-Word))

pub is_name-requires : goal.is_name-requires
is_name-requires c = (sees c.next_item.ensures c.in-Word.is).ahead.3

pub returns-then-not-is_name : goal.returns-then-not-is_name
returns-then-not-is_name c =
    let kind = c.args.kind in
    let l = sees c.next_item.ensures c.in-Word.is in
    refuse (by_word (name_and_part kind _) _ l ∙ rw (sym c.is_name.ensures ∙ c.if-not-is_name.true))

pub returns : goal.returns
returns c =
    let kind = c.args.kind in
    let l = sees c.next_item.ensures c.in-Word.is in
    after-word l
    (by_word (name_and_part kind _) _ l ∙ rw (sym c.is_name.ensures ∙ c.if-not-is_name.false))
    c.only_part.ensures
