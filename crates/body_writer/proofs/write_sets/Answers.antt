-- `body_writer::write_sets` meets its contract: the sets of the attributes passed are written. Assumes nothing.
use mathlib.Core.Path.{refl}
use native.Mathlib.Omega.{arith}
use borrow.Author.Rules.{rules}
use Rattle.policy.specs.Meaning.{final}
use Rattle.policy.specs.Image as image
use Rattle.body_writer.proofs.SetRows.{no-set, next-set, all-sets}
use Rattle.body_writer.proofs.write_sets.Goals as goal

pub loop-a-init : goal.loop-a-init
loop-a-init c = (refl, λ p f h w. no-set _ (final p f) _ _)

pub loop-a-preserved : goal.loop-a-preserved
loop-a-preserved c = (
  search rules,
  λ p f h w. next-set p f _ _ _ _ _ _ _ _ _ _ h w (omega (arith, c.min-a-end.ensures)) c.part-set.ensures
      (c.loop-a.invariant.1 p f h w) c.append-to.ensures,
)

pub returns : goal.returns
returns c =
    record { body = λ p f h w few room. all-sets p f _ _ _ _ _ _ _ w (omega (arith, c.min-a-end.ensures, few)) room (c.loop-a.invariant.1 p f h w) }
