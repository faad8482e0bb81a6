-- `sound_constraints::relabels_fit` meets its contract: each statement is asked for its rows, and its answer is that of its record. Assumes nothing.
use native.Mathlib.Nat.{add-zero}
use mathlib.Core.Path.{◌∙◌}
use mathlib.Core.List.{[]}
use borrow.Author.Rules.{rules}
use Rattle.policy.specs.Sound.{relabel_at}
use Rattle.sound_constraints.specs.Totals.{totals_in}
use Rattle.sound_constraints.specs.SoundRows.{asks_relabel}
use Rattle.sound_constraints.proofs.PieceLaws.{relabel-front}
use Rattle.sound_constraints.proofs.ConstraintLaws.{good, take-up-relabels}
use Rattle.sound_constraints.proofs.StatementLaws.{asked_at, taken-up}
use Rattle.sound_constraints.proofs.relabels_fit.Goals as goal

pub returns : goal.returns
returns c =
    let a = c.args in
    let n = totals_in a.counts [] in
    c.statements_fit.ensures (asked_at 4 relabel_at relabel-front (asks_relabel n) (good n 9) a.table.now a.relabels) (λ k r o l m p. search rules)
    ∙ taken-up 4 relabel_at relabel-front (asks_relabel n) (good n 9) a.table.now a.relabels a.count 0 0 _
    ∙ rw add-zero (take-up-relabels n _ _)
