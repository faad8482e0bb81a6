-- `sound_constraints::statements_fit` meets its contract: each way through a turn is one law of StatementLaws. Assumes nothing.
use Prim.Native.Nat.{◌+◌, ◌-◌, ◌*◌}
use mathlib.Core.Path.{refl, sym, ◌∙◌}
use native.Mathlib.Omega.{arith}
use borrow.Author.Tests.{not-true, not-false}
use Rattle.std.specs.Prelude.{Some, None}
use Rattle.sound_constraints.specs.Totals.{things_of, attributes_of}
use Rattle.sound_constraints.specs.SoundRows.{fits_row}
use Rattle.sound_constraints.proofs.StatementLaws.{taken-end, taken-none, taken-many, taken-rows, taken_next}
use Rattle.sound_constraints.proofs.statements_fit.Goals as goal

pub returns-in_default : goal.returns-in_default
returns-in_default g c = λ f h.
    let a = c.args in
    let l = c.loop-number in
    taken-none f (fits_row a.components (things_of a.counts) (attributes_of a.counts)) a.table.now l.number (a.count - l.number) l.taken (a.start + 6 * l.taken) (a.rows - l.taken)
    (l.invariant.1 f h) (a.count - (l.number + 1)) (omega arith)
    (h l.number l.taken None c.loop-number-test.true l.invariant.0 c.in_default.ensures)

pub returns-then-rows-taken : goal.returns-then-rows-taken
returns-then-rows-taken g c = λ f h.
    let a = c.args in
    let l = c.loop-number in
    taken-many f (fits_row a.components (things_of a.counts) (attributes_of a.counts)) a.table.now l.number (a.count - l.number) l.taken (a.start + 6 * l.taken) (a.rows - l.taken)
    (l.invariant.1 f h) (a.count - (l.number + 1)) (omega arith)
    c.in-Some.more (h l.number l.taken (Some c.in-Some.more) c.loop-number-test.true l.invariant.0 c.in-Some.ensures) c.if-rows-taken.true

pub returns-then-not-rows_fit : goal.returns-then-not-rows_fit
returns-then-not-rows_fit g c = λ f h.
    let a = c.args in
    let l = c.loop-number in
    taken-rows f (fits_row a.components (things_of a.counts) (attributes_of a.counts)) a.table.now l.number (a.count - l.number) l.taken (a.start + 6 * l.taken) (a.rows - l.taken)
    (l.invariant.1 f h) (a.count - (l.number + 1)) (omega arith)
    c.in-Some.more (h l.number l.taken (Some c.in-Some.more) c.loop-number-test.true l.invariant.0 c.in-Some.ensures) c.if-rows-taken.false
    (sym c.rows_fit.ensures ∙ not-true _ c.if-not-rows_fit.true-raw)

pub loop-number-preserved : goal.loop-number-preserved
loop-number-preserved g c =
    let a = c.args in
    let l = c.loop-number in
    let next = l.taken + c.in-Some.more in (
      omega arith,
      λ f h. taken_next f (fits_row a.components (things_of a.counts) (attributes_of a.counts)) a.table.now l.number (a.count - l.number) l.taken (a.start + 6 * l.taken) (a.rows - l.taken)
          (l.invariant.1 f h) (a.count - (l.number + 1)) (omega arith)
          c.in-Some.more (h l.number l.taken (Some c.in-Some.more) c.loop-number-test.true l.invariant.0 c.in-Some.ensures) c.if-rows-taken.false
          (sym c.rows_fit.ensures ∙ not-false _ c.if-not-rows_fit.false-raw) (a.start + 6 * next) (a.rows - next) (omega arith) (omega arith),
    )

pub returns : goal.returns
returns g c = λ f h.
    let a = c.args in
    let l = c.loop-number in
    taken-end f (fits_row a.components (things_of a.counts) (attributes_of a.counts)) a.table.now l.number (a.count - l.number) l.taken (a.start + 6 * l.taken) (a.rows - l.taken)
    (l.invariant.1 f h) a.rows l.invariant.0 refl (omega arith)
