-- `clashes::clashes_earlier` meets its contract: none of the items passed clashes. Assumes nothing.
use mathlib.Core.Path.{refl, sym, ◌∙◌}
use Rattle.clashes.proofs.ClashLaws.{earlier-start, earlier-none, earlier-over, earlier-found, earlier_on}
use Rattle.code_reader.proofs.Passes.{finish}
use Rattle.code_reader.proofs.Items.{items}
use Rattle.clashes.proofs.clashes_earlier.Goals as goal

pub loop-at-init : goal.loop-at-init
loop-at-init c = λ p part t ok s q codes hr ht. earlier-start p ok part s t _ q

pub returns-then-clashes_at : goal.returns-then-clashes_at
returns-then-clashes_at c =
    λ p part t ok s q codes hr ht.
    earlier-found p ok part s t _ _ c.loop-at-test.true (c.loop-at.invariant p part t ok s q codes hr ht) c.if-earlier-at-eq-TRANSITION.true _ _ hr ht
    _ _ codes (refl, refl, refl, refl)
    (sym c.clashes_at.ensures ∙ c.if-clashes_at.true)

pub loop-at-preserved-else-clashes_at : goal.loop-at-preserved-else-clashes_at
loop-at-preserved-else-clashes_at c =
    λ p part t ok s q codes hr ht.
    earlier_on p ok part s t _ _ c.loop-at-test.true (c.loop-at.invariant p part t ok s q codes hr ht) c.if-earlier-at-eq-TRANSITION.true _ _ hr ht _
    _ codes (refl, refl, refl, refl)
    _ c.next_statement-next.ensures.0 (sym c.clashes_at.ensures ∙ c.if-clashes_at.false)

pub loop-at-preserved : goal.loop-at-preserved
loop-at-preserved c =
    λ p part t ok s q codes hr ht.
    earlier-over p ok part s t _ _ c.loop-at-test.true (c.loop-at.invariant p part t ok s q codes hr ht) _
    c.next_statement-next.ensures.0 c.if-earlier-at-eq-TRANSITION.false

pub returns : goal.returns
returns c = λ p part t ok s q codes hr ht. earlier-none p ok part s t (finish (items part) _ _ _ c.loop-at-test.false (c.loop-at.invariant p part t ok s q codes hr ht))
