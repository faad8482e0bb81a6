-- `sound_constraints::rows_fit` meets its contract. The loop's invariant: the rows that are left pass from `depth` on where all do from 0 on. Each
-- way through a turn is one law of RowLaws. Assumes nothing.
use Prim.Native.Nat.{◌+◌, ◌-◌, ◌*◌}
use mathlib.Core.Path.{sym, ◌∙◌}
use borrow.Author.Tests.{not-true, not-false}
use lib.ListN.{drop}
use Rattle.policy.specs.Sound.{pieces}
use Rattle.table_reader.specs.Records.{row_of}
use Rattle.sound_constraints.specs.Totals.{things_of, attributes_of}
use Rattle.sound_constraints.specs.SoundRows.{fits_row, rows_fit}
use Rattle.sound_constraints.proofs.RowLaws.{RowTurn, row-turn, rows_end, rows-fourth, rows-bad, rows-deep, rows_next}
use native.Mathlib.Omega.{arith}
use Rattle.sound_constraints.proofs.rows_fit.Goals as goal
use Rattle.sound_constraints.proofs.rows_fit.Goals.{After-row_at-row}

-- at a turn: the row read is the first of those left
ahead : (c : After-row_at-row) →
    let a = c.args in
    let l = c.loop-number in
    let good = fits_row a.components (things_of a.counts) (attributes_of a.counts) in
    RowTurn good a.table.now (rows_fit good (pieces a.count 6 (drop (a.start + 6 * a.first) a.table.now)) 0) (a.start + 6 * l.number) l.depth
    (pieces (a.first + a.count - (l.number + 1)) 6 (drop (a.start + 6 * (l.number + 1)) a.table.now)) (row_of c.row_at-row.result)
ahead c =
    let a = c.args in
    let l = c.loop-number in
    row-turn (fits_row a.components (things_of a.counts) (attributes_of a.counts)) a.table.now (a.start + 6 * l.number) (a.first + a.count - l.number) l.depth l.invariant
    (a.start + 6 * (l.number + 1)) (a.first + a.count - (l.number + 1)) (omega arith) (omega arith) (row_of c.row_at-row.result) c.row_at-row.ensures

pub returns-then-byte-ne0 : goal.returns-then-byte-ne0
returns-then-byte-ne0 c = rows-fourth (ahead (goal.at.returns-then-byte-ne0 c).After-row_at-row) (λ e. c.if-byte-ne0.true (c.byte.ensures ∙ e))

pub returns-then-not-fits_row : goal.returns-then-not-fits_row
returns-then-not-fits_row c =
    rows-bad (ahead (goal.at.returns-then-not-fits_row c).After-row_at-row) (sym c.byte.ensures ∙ c.if-byte-ne0.false)
    (sym c.fits_row.ensures ∙ not-true _ c.if-not-fits_row.true-raw)

pub returns-in_default : goal.returns-in_default
returns-in_default c =
    rows-deep (ahead (goal.at.returns-in_default c).After-row_at-row)
    (sym c.byte.ensures ∙ c.if-byte-ne0.false)
    (sym c.fits_row.ensures ∙ not-false _ c.if-not-fits_row.false-raw) c.in_default.ensures

pub loop-number-preserved : goal.loop-number-preserved
loop-number-preserved c =
    rows_next (ahead (goal.at.loop-number-preserved c).After-row_at-row)
    (sym c.byte.ensures ∙ c.if-byte-ne0.false)
    (sym c.fits_row.ensures ∙ not-false _ c.if-not-fits_row.false-raw) c.in-Some.next c.in-Some.ensures

pub returns : goal.returns
returns c =
    let l = c.loop-number in
    let a = c.args in
    rows_end (fits_row a.components (things_of a.counts) (attributes_of a.counts)) a.table.now (a.start + 6 * l.number) (a.first + a.count - l.number) l.depth l.invariant
    (omega arith)
