-- `sound_constraints::statements_fit` meets its contract. The loop's invariant: the statements and rows that are left pass where all do, whatever answers.
-- Assumes nothing.
use Prim.Native.Nat.{ℕ, ◌+◌, ◌-◌, ◌*◌, ◌≤◌}
use mathlib.Core.Path.{◌≡◌}
use lib.ListN.{drop}
use Rattle.std.specs.Prelude.{Option}
use Rattle.policy.specs.Sound.{pieces}
use Rattle.sound_constraints.specs.Totals.{things_of, attributes_of}
use Rattle.sound_constraints.specs.SoundRows.{fits_row, AnswersAs, taken_up}
use Rattle.sound_constraints.proofs.statements_fit.Given as goal

abbrev pub invariant-loop-number : goal.invariant-loop-number
invariant-loop-number g l =
    (l.taken ≤ l.rows)
    × (
    (f : ℕ → ℕ → Option ℕ) → AnswersAs (goal.F-post g l.asked) l.count l.rows f
    → taken_up f (fits_row l.components (things_of l.counts) (attributes_of l.counts)) l.number (l.count - l.number) l.taken (pieces (l.rows - l.taken) 6 (drop (l.start + 6 * l.taken) l.table))
    ≡ taken_up f (fits_row l.components (things_of l.counts) (attributes_of l.counts)) 0 l.count 0 (pieces l.rows 6 (drop l.start l.table))
    )
