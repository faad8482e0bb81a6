-- `clashes::first_clash` meets its contract: the answer is still to be found among the items ahead. Assumes nothing.
use native.Mathlib.Omega.{arith}
use mathlib.Core.Path.{sym}
use lib.Seq.{length-take-le}
use Rattle.clashes.proofs.ClashLaws.{looks-first, looks-none, looks-over, looks_on, clash-found}
use Rattle.code_reader.proofs.SetPasses.{start}
use Rattle.code_reader.proofs.Passes.{finish}
use Rattle.code_reader.proofs.Items.{items}
use Rattle.clashes.proofs.first_clash.Goals as goal

pub loop-at-init : goal.loop-at-init
loop-at-init c = λ p part ok s q hr ht. start part _ _ q (looks-first p ok part s)

pub slice_bounds-clashes_earlier-end : goal.slice_bounds-clashes_earlier-end
slice_bounds-clashes_earlier-end c = sym (length-take-le _ _ (omega arith))

pub returns-then-clashes_earlier : goal.returns-then-clashes_earlier
returns-then-clashes_earlier c =
    λ p part ok s q hr ht. rw c.unit.ensures
    (clash-found p ok part s _ q _ c.loop-at-test.true (c.loop-at.invariant p part ok s q hr ht) c.if-code-at-eq-TRANSITION.true _ _ hr ht _
    c.transition.ensures _ c.clashes_earlier.ensures
    c.if-clashes_earlier.true)

pub loop-at-preserved-else-clashes_earlier : goal.loop-at-preserved-else-clashes_earlier
loop-at-preserved-else-clashes_earlier c =
    λ p part ok s q hr ht.
    looks_on p ok part s _ q _ c.loop-at-test.true (c.loop-at.invariant p part ok s q hr ht) c.if-code-at-eq-TRANSITION.true _ _ hr ht _
    c.transition.ensures _ c.clashes_earlier.ensures
    _ c.next_statement-next.ensures.0 c.if-clashes_earlier.false

pub loop-at-preserved : goal.loop-at-preserved
loop-at-preserved c =
    λ p part ok s q hr ht.
    looks-over p ok part s _ q _ c.loop-at-test.true (c.loop-at.invariant p part ok s q hr ht) _
    c.next_statement-next.ensures.0 c.if-code-at-eq-TRANSITION.false

pub returns : goal.returns
returns c = λ p part ok s q hr ht. looks-none p ok part s (finish (items part) _ _ _ c.loop-at-test.false (c.loop-at.invariant p part ok s q hr ht))
