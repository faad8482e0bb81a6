-- `sound_constraints::rows_fit` meets its contract. The loop's invariant: the rows that are left pass from `depth` on where all do from 0 on. Each
-- way through a turn is one law of RowLaws. Assumes nothing.
use Prim.Native.Nat.{◌+◌, ◌-◌, ◌*◌}
use mathlib.Core.Path.{◌≡◌}
use lib.ListN.{drop}
use Rattle.policy.specs.Sound.{pieces}
use Rattle.sound_constraints.specs.Totals.{things_of, attributes_of}
use Rattle.sound_constraints.specs.SoundRows.{fits_row, rows_fit}
use Rattle.sound_constraints.proofs.rows_fit.Given as goal

abbrev pub invariant-loop-number : goal.invariant-loop-number
invariant-loop-number l =
    rows_fit (fits_row l.components (things_of l.counts) (attributes_of l.counts)) (pieces (l.first + l.count - l.number) 6 (drop (l.start + 6 * l.number) l.table)) l.depth
    ≡ rows_fit (fits_row l.components (things_of l.counts) (attributes_of l.counts)) (pieces l.count 6 (drop (l.start + 6 * l.first) l.table)) 0
