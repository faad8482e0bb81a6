-- `items::parts_form` meets its contract: what is left of the row decides. Assumes nothing.
use mathlib.Core.Path.{refl, sym, ap, ◌∙◌}
use mathlib.Core.Bool.{false}
use mathlib.Core.List.{[], ◌∷◌}
use Prim.Native.Nat.{ℕ}
use native.Mathlib.Omega.{arith}
use Rattle.lexer.specs.Forms.{frames_at}
use Rattle.policy.specs.Grammar.{parts_alone}
use Rattle.items.specs.Looks.{row_end}
use Rattle.items.proofs.Ends.{ends-ahead}
use Rattle.items.proofs.Items.{sees, alike-here}
use Rattle.items.proofs.Rows.{give, refuse}
use Rattle.items.proofs.parts_form.Goals as goal

pub loop-next-init : goal.loop-next-init
loop-next-init c = (omega arith, refl, refl)

pub loop-next-smaller : goal.loop-next-smaller
loop-next-smaller c =
    let text = c.args.text.now in
    let next = c.in-Open.next in
    let l = sees c.next_item.ensures c.in-Open.is in
    omega (arith, c.row_end-i.ensures, l.ahead.0, ends-ahead text next l.ahead.1)

pub loop-next-preserved : goal.loop-next-preserved
unfolding parts_alone
loop-next-preserved c =
    let text = c.args.text.now in
    let next = c.in-Open.next in
    let l = sees c.next_item.ensures c.in-Open.is in (
      omega (arith, c.row_end-i.ensures, c.loop-next.invariant.0, l.ahead.0, ends-ahead text next l.ahead.1),
      ap (row_end text) c.row_end-i.ensures ∙ sym l.end ∙ c.loop-next.invariant.1,
      ap (λ (n : ℕ). parts_alone (frames_at text n).here) c.row_end-i.ensures ∙ sym (ap parts_alone l.here) ∙ c.loop-next.invariant.2,
    )

pub returns-in-Close : goal.returns-in-Close
unfolding parts_alone
returns-in-Close c =
    let l = sees c.next_item.ensures c.in-Close.is in
    give
    (sym c.loop-next.invariant.2 ∙ ap parts_alone l.here)
    (sym c.loop-next.invariant.1 ∙ l.end)
    (omega (arith, c.loop-next.invariant.0, l.ahead.0))
    l.ahead.1

pub returns-in-Word : goal.returns-in-Word
unfolding parts_alone
returns-in-Word c =
    refuse
    (sym c.loop-next.invariant.2
    ∙ alike-here parts_alone (λ f. false) _ _ _ (0 ∷ 3 ∷ []) (λ s b f. refl, tt, tt, refl) c.next_item.ensures c.in-Word.in-Word-own.keys3)
