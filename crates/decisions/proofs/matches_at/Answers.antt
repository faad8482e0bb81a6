-- `decisions::matches_at` meets its contract: field by field, each where it is in the table. Assumes nothing.
use mathlib.Core.Path.{sym, ◌∙◌}
use Rattle.decisions.proofs.TransitionLaws.{matches-fields}
use Rattle.decisions.proofs.matches_at.Goals as goal
use Rattle.decisions.proofs.matches_at.Goals.{then-contains_at, else-contains_at}

pub returns-then-contains_at-2 : goal.returns-then-contains_at-2
returns-then-contains_at-2 c =
    let a = c.args in
    let both = c.if-contains_at-2.true in
    elim c.if-contains_at.branch [
      | then-contains_at w ↦ sym (matches-fields a.role a.kind a.class a.at a.table.now
          ∙ rw (← w.if-contains_at.ensures, ← w.contains_at-then-contains_at.ensures, sym w.value-is ∙ both, ← c.byte.ensures))
      | else-contains_at w ↦ cc
    ]

pub returns-else-contains_at-2 : goal.returns-else-contains_at-2
returns-else-contains_at-2 c =
    let a = c.args in
    let none = c.if-contains_at-2.false in
    elim c.if-contains_at.branch [
      | then-contains_at w ↦ none ∙ sym (matches-fields a.role a.kind a.class a.at a.table.now
          ∙ rw (← w.if-contains_at.ensures, ← w.contains_at-then-contains_at.ensures, sym w.value-is ∙ none))
      | else-contains_at w ↦ none ∙ sym (matches-fields a.role a.kind a.class a.at a.table.now ∙ rw (← w.if-contains_at.ensures))
    ]
