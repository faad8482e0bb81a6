-- `sound_bodies::transitions_fit` meets its contract. The loop's invariant: the transitions that are left pass where all do. Assumes nothing.
use Prim.Native.Nat.{◌+◌, ◌-◌, ◌*◌}
use native.Mathlib.Nat.{add-zero, sub-zero}
use mathlib.Core.Path.{sym, ◌∙◌}
use borrow.Author.Tests.{not-true, not-false}
use Rattle.policy.specs.Sound.{transition_at}
use Rattle.sound_constraints.specs.Totals.{things_of}
use Rattle.sound_constraints.proofs.PieceLaws.{every-each, every-fails, every-goes-on, every-ends}
use Rattle.sound_bodies.specs.SoundBodies.{fits_transition}
use native.Mathlib.Omega.{arith}
use Rattle.sound_bodies.proofs.transitions_fit.Goals as goal

pub loop-number-init : goal.loop-number-init
loop-number-init c = rw (sub-zero, add-zero) (sym (every-each (fits_transition (things_of c.args.counts) c.args.counts.classes) transition_at _))

pub returns-then-not-fits_transition : goal.returns-then-not-fits_transition
returns-then-not-fits_transition c =
    let l = c.loop-number in
    let a = c.args in
    every-fails 82 (λ x. fits_transition (things_of a.counts) a.counts.classes (transition_at x)) a.table.now (a.start + 82 * l.number) (a.count - l.number) l.invariant
    (omega arith) (sym c.fits_transition.ensures ∙ not-true _ c.if-not-fits_transition.true-raw)

pub loop-number-preserved : goal.loop-number-preserved
loop-number-preserved c =
    let l = c.loop-number in
    let a = c.args in
    every-goes-on 82 (λ x. fits_transition (things_of a.counts) a.counts.classes (transition_at x)) a.table.now (a.start + 82 * l.number)
    (a.count - l.number) l.invariant
    (a.start + 82 * (l.number + 1)) (a.count - (l.number + 1)) (omega arith) (omega arith) (sym c.fits_transition.ensures ∙ not-false _ c.if-not-fits_transition.false-raw)

pub returns : goal.returns
returns c =
    let l = c.loop-number in
    let a = c.args in
    every-ends 82 (λ x. fits_transition (things_of a.counts) a.counts.classes (transition_at x)) a.table.now (a.start + 82 * l.number) (a.count - l.number) l.invariant
    (omega arith)
