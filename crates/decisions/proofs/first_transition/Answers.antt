-- `decisions::first_transition` meets its contract. The loop's invariant: the transitions that are left answer as all do. Assumes nothing.
use Prim.Native.Nat.{◌+◌, ◌-◌, ◌*◌, ◌/◌}
use native.Mathlib.Omega.{arith}
use mathlib.Core.Path.{sym, ◌∙◌}
use Rattle.decisions.proofs.TransitionLaws.{transition-found, transition-passed, transition-none}
use Rattle.decisions.proofs.first_transition.Goals as goal

pub returns-then-matches_at : goal.returns-then-matches_at
returns-then-matches_at c =
    let l = c.loop-number in
    let a = c.args in
    let start = c.body_start-start.result in
    let count = c.body_length.result / 82 in
    c.byte.ensures
    ∙ transition-found a.role a.kind a.class a.table.now (start + 82 * l.number) (count - l.number) (omega arith) (sym c.if-matches_at.ensures)
    ∙ l.invariant

pub loop-number-preserved : goal.loop-number-preserved
loop-number-preserved c =
    let l = c.loop-number in
    let a = c.args in
    let start = c.body_start-start.result in
    let count = c.body_length.result / 82 in
    transition-passed a.role a.kind a.class a.table.now (start + 82 * l.number) (count - l.number) (count - (l.number + 1)) (omega arith)
    (start + 82 * (l.number + 1)) (omega arith) (sym c.if-matches_at.ensures)
    ∙ l.invariant

pub returns : goal.returns
returns c =
    let l = c.loop-number in
    let a = c.args in
    let start = c.body_start-start.result in
    let count = c.body_length.result / 82 in
    transition-none a.role a.kind a.class a.table.now (start + 82 * l.number) (count - l.number) (omega arith) ∙ l.invariant
