-- `sound_bodies::sets_within` meets its contract. The loop's invariant: the sets that are left pass where all do. Assumes nothing.
use Prim.Native.Nat.{◌+◌, ◌-◌, ◌*◌}
use mathlib.Core.Path.{sym, ◌∙◌}
use borrow.Author.Tests.{not-true, not-false}
use Rattle.byte_slices.specs.Parts.{part}
use Rattle.bitset.specs.Sets.{within}
use Rattle.sound_constraints.proofs.PieceLaws.{every-fails, every-goes-on, every-ends}
use native.Mathlib.Omega.{arith}
use Rattle.sound_bodies.proofs.sets_within.Goals as goal

pub returns-then-not-is_within_at : goal.returns-then-not-is_within_at
unfolding part
returns-then-not-is_within_at c =
    let l = c.loop-number in
    let a = c.args in
    every-fails a.width (within a.total) a.table.now (a.start + l.number * a.width) (a.count - l.number) l.invariant (omega arith)
    (sym c.is_within_at.ensures ∙ not-true _ c.if-not-is_within_at.true-raw)

pub loop-number-preserved : goal.loop-number-preserved
unfolding part
loop-number-preserved c =
    let l = c.loop-number in
    let a = c.args in
    every-goes-on a.width (within a.total) a.table.now (a.start + l.number * a.width) (a.count - l.number) l.invariant
    (a.start + (l.number + 1) * a.width) (a.count - (l.number + 1)) (omega arith) (omega arith)
    (sym c.is_within_at.ensures ∙ not-false _ c.if-not-is_within_at.false-raw)

pub returns : goal.returns
returns c =
    let l = c.loop-number in
    let a = c.args in
    every-ends a.width (within a.total) a.table.now (a.start + l.number * a.width) (a.count - l.number) l.invariant (omega arith)
