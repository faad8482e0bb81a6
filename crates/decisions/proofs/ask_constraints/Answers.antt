-- `decisions::ask_constraints` meets its contract: the bodies are where the header says, and the sides in their order. Assumes nothing.
use mathlib.Core.Path.{sym, ap, ◌∙◌}
use lib.ListN.{length}
use Rattle.decisions.specs.Asked.{question}
use Rattle.decisions.proofs.StatementLaws.{ask-constraints-of}
use Rattle.decisions.proofs.ask_constraints.Goals as goal

pub slice_bounds-first_failing-end : goal.slice_bounds-first_failing-end
slice_bounds-first_failing-end c = sym (ap length c.sides_of-sides.ensures)

pub returns : goal.returns
returns c = λ s counts.
    let a = c.args in
    c.first_failing.ensures
    ∙ ask-constraints-of a.table.now s counts c.attribute_count-users.ensures c.attribute_count-roles.ensures
    (question a.source a.target a.class a.permission) _ _ c.locate-bodies.ensures c.sides_of-sides.ensures
