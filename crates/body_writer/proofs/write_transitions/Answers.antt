-- `body_writer::write_transitions` meets its contract: the transitions of the items passed are written. Assumes nothing.
use mathlib.Core.Path.{refl}
use Prim.Native.Nat.{◌-◌}
use borrow.Author.Rules.{rules}
use Rattle.code_reader.proofs.SetPasses.{start}
use Rattle.code_reader.proofs.Passes.{finish}
use Rattle.code_reader.proofs.Items.{items}
use Rattle.body_writer.proofs.TransitionRecords.{bytes-none, bytes-all, move-more, move-over}
use Rattle.body_writer.proofs.write_transitions.Goals as goal

pub loop-place-init : goal.loop-place-init
loop-place-init c = (refl, λ p ok q hr ht. start p _ _ q (bytes-none p _ _))

pub loop-place-preserved-then-code-place-eq-TRANSITION : goal.loop-place-preserved-then-code-place-eq-TRANSITION
loop-place-preserved-then-code-place-eq-TRANSITION c = (
  search rules,
  λ p ok q hr ht.
      move-more p _ _ ok _ _ _ c.loop-place-test.true c.next_statement-next.ensures.0 _ _ (c.loop-place.invariant.1 p ok q hr ht)
      c.if-code-place-eq-TRANSITION.true _ c.transition-operands.ensures _ _ hr ht _ _ c.write_transition-to.ensures,
)

pub loop-place-preserved : goal.loop-place-preserved
loop-place-preserved c = (
  search rules,
  λ p ok q hr ht. move-over p _ _ ok _ _ _ c.loop-place-test.true c.next_statement-next.ensures.0 _ _
      (c.loop-place.invariant.1 p ok q hr ht) c.if-code-place-eq-TRANSITION.false,
)

pub returns : goal.returns
returns c = record { body = λ p ok q hr ht room. bytes-all p _ _ _ _ room (finish (items p) _ _ _ c.loop-place-test.false (c.loop-place.invariant.1 p ok q hr ht)) }
