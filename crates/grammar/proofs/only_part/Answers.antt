-- `grammar::only_part` meets its contract. Assumes nothing.
use mathlib.Core.Path.{refl, ◌∙◌}
use mathlib.Core.Bool.{false}
use mathlib.Core.List.{[], ◌∷◌}
use Rattle.grammar.specs.Shapes.{only_part}
use Rattle.items.proofs.Items.{sees, no_part, by_part, too-deep, alike}
use Rattle.items.proofs.Rows.{passes, refuses, refuse, after-part, trim-closed}
use Rattle.grammar.proofs.only_part.Goals as goal

pub returns-in_default : goal.returns-in_default
returns-in_default c = refuse (alike (only_part _) (λ f. false) _ _ _ (0 ∷ 2 ∷ 3 ∷ []) _ (λ s b f. refl, tt, refl, refl) c.next_item.ensures (no_part _ c.in_default.not-Open))

pub returns-then-levels-eq0 : goal.returns-then-levels-eq0
returns-then-levels-eq0 c = refuse (too-deep (only_part _) _ (sees c.next_item.ensures c.in-Open.is) c.if-levels-eq0.true)

pub returns-in_err-past : goal.returns-in_err-past
returns-in_err-past c =
    let l = sees c.next_item.ensures c.in-Open.is in
    rw c.from_residual.ensures (refuse (by_part (only_part _) _ _ l refl c.if-levels-eq0.false ∙ rw (refuses c.in_err-past.ensures)))

pub returns : goal.returns
returns c =
    let l = sees c.next_item.ensures c.in-Open.is in
    let g = passes c.in_ok-past.ensures in
    after-part l g (by_part (only_part _) _ _ l g.end c.if-levels-eq0.false ∙ rw g.good (trim-closed _ _)) c.close_form.ensures
