-- `sound_questions::change` meets its contract: what is known of the names is what the summary says. Assumes nothing.
use Prim.Native.Nat.{◌<◌}
use mathlib.Core.Path.{◌∙◌}
use Rattle.table_laws.proofs.ListLaws.{all-places}
use Rattle.sound_questions.proofs.Known.{knows, permission-known}
use Rattle.sound_questions.proofs.change.Goals as goal

pub returns : goal.returns
returns c = λ summary.
    let said = c.names_of.ensures in
    let a = c.args in
    let t = a.table.now in
    let bytes = all-places (λ k. k < 256) t 0 (λ i l. (c.shared_slice_known-1.given i).fits) in
    c.change.ensures (rw (said.0, said.1) (knows t _ bytes summary))
    (rw said.0 (λ l.
    c.has_permission.ensures ∙ permission-known t _ bytes summary a.class a.permission l))
