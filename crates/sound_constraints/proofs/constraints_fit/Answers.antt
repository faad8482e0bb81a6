-- `sound_constraints::constraints_fit` meets its contract: each statement is asked for its rows, and its answer is that of its record. Assumes nothing.
use native.Mathlib.Nat.{add-zero}
use mathlib.Core.Path.{◌∙◌}
use borrow.Author.Rules.{rules}
use Rattle.policy.specs.Sound.{constraint_at}
use Rattle.sound_constraints.specs.Totals.{totals_in}
use Rattle.sound_constraints.specs.SoundRows.{asks_constraint}
use Rattle.sound_constraints.proofs.PieceLaws.{constraint-front}
use Rattle.sound_constraints.proofs.ConstraintLaws.{good, take-up-law}
use Rattle.sound_constraints.proofs.StatementLaws.{asked_at, taken-up}
use Rattle.sound_constraints.proofs.constraints_fit.Goals as goal

pub returns : goal.returns
returns c =
    let a = c.args in
    let n = totals_in a.counts a.permissions.now in
    c.statements_fit.ensures (asked_at 10 constraint_at constraint-front (asks_constraint n) (good n 6) a.table.now a.constraints) (λ k r o l m p. search rules)
    ∙ taken-up 10 constraint_at constraint-front (asks_constraint n) (good n 6) a.table.now a.constraints a.count 0 0 _
    ∙ rw add-zero (take-up-law n _ _)
