-- `decisions::ask_relabels` meets its contract: the bodies are where the header says, and the sides in their order. Assumes nothing.
use mathlib.Core.Path.{sym, ap, ◌∙◌}
use lib.ListN.{length}
use Rattle.decisions.specs.Asked.{relabelling}
use Rattle.decisions.proofs.StatementLaws.{ask-relabels-of}
use Rattle.decisions.proofs.ask_relabels.Goals as goal

pub slice_bounds-first_failing_relabel-end : goal.slice_bounds-first_failing_relabel-end
slice_bounds-first_failing_relabel-end c = sym (ap length c.sides_of-sides.ensures)

pub returns : goal.returns
returns c = λ s counts.
    let a = c.args in
    c.first_failing_relabel.ensures
    ∙ ask-relabels-of a.table.now s counts c.attribute_count-users.ensures c.attribute_count-roles.ensures
    (relabelling a.class a.old a.new a.process) _ _ c.locate_relabels-bodies.ensures c.sides_of-sides.ensures
