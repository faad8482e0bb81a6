-- `sound_bodies::bodies_follow` meets its contract. The loop's invariant: the bodies that are left follow from `end` on where all do from the first
-- one. Assumes nothing.
use native.Mathlib.Nat.{sub-zero}
use mathlib.Core.Path.{sym, ◌∙◌}
use Rattle.sound_bodies.specs.SoundBodies.{header_bytes}
use Rattle.sound_bodies.proofs.LayoutTest.{follow-next, follow-not, follow-end}
use native.Mathlib.Omega.{arith}
use Rattle.sound_bodies.proofs.bodies_follow.Goals as goal

pub loop-body-init : goal.loop-body-init
loop-body-init c = (omega (arith, c.first_body-end.ensures), rw (c.first_body-end.ensures, sub-zero))

pub returns-then-body_start-end : goal.returns-then-body_start-end
returns-then-body_start-end c =
    let a = c.args in
    follow-not a.sections (header_bytes a.sections) a.table.now c.loop-body.end c.loop-body.body c.loop-body.invariant.1 (omega arith)
    (λ e. c.if-body_start-end.true (c.body_start.ensures ∙ e))

pub loop-body-preserved : goal.loop-body-preserved
loop-body-preserved c =
    let a = c.args in (
      omega arith,
      follow-next a.sections (header_bytes a.sections) a.table.now c.loop-body.end c.loop-body.body c.loop-body.invariant.1 (omega arith)
          (sym c.body_start.ensures ∙ c.if-body_start-end.false) c.body_length.ensures,
    )

pub returns : goal.returns
returns c =
    let a = c.args in
    follow-end a.sections (header_bytes a.sections) a.table.now c.loop-body.end c.loop-body.body c.loop-body.invariant.1 (omega arith)
