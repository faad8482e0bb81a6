-- `grammar::block_form` meets its contract: a name of one part, and parts alone after it. Assumes nothing.
use mathlib.Core.Path.{refl, sym, ◌∙◌}
use mathlib.Core.List.{[], ◌∷◌}
use mathlib.Core.Option.{none}
use Rattle.policy.specs.Grammar.{header_in}
use Rattle.items.proofs.Items.{sees, no_word, alike-here}
use Rattle.items.proofs.Rows.{passes, refuses}
use Rattle.grammar.proofs.BlockLaws.{unnamed, named, not-alone}
use Rattle.grammar.proofs.block_form.Goals as goal

pub returns-in_default : goal.returns-in_default
returns-in_default c =
    record { is = alike-here header_in (λ f. none) _ _ _ (1 ∷ 2 ∷ 3 ∷ []) (tt, λ x f g. refl, refl, refl) c.next_item.ensures (no_word _ c.in_default.not-Word) }

pub is_name-requires : goal.is_name-requires
is_name-requires c = (sees c.next_item.ensures c.in-Word.is).ahead.3

pub returns-then-not-is_name : goal.returns-then-not-is_name
returns-then-not-is_name c = unnamed _ _ c.next_item.ensures c.in-Word.is (sym c.if-not-is_name.true ∙ c.is_name.ensures)

pub returns-in_err-parts_form : goal.returns-in_err-parts_form
returns-in_err-parts_form c =
    rw c.from_residual.ensures (not-alone _ _ c.next_item.ensures c.in-Word.is (refuses c.in_err-parts_form.ensures))

pub returns : goal.returns
returns c = named _ _ c.next_item.ensures c.in-Word.is (sym c.if-not-is_name.false ∙ c.is_name.ensures) (passes c.in_ok-parts_form.ensures).good
