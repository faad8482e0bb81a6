-- `questions::relabel` meets its contract: 11, then what a sound table answers. Assumes nothing.
use Prim.Native.Nat.{◌<◌}
use mathlib.Core.Path.{sym}
use Rattle.table_laws.proofs.ListLaws.{all-places}
use Rattle.soundness.proofs.AnswerLaws.{unsound-by}
use Rattle.decisions.proofs.CountedLaws.{names-known}
use Rattle.questions.proofs.Unsound.{relabel-unsound}
use Rattle.questions.proofs.relabel.Goals as goal

pub returns-in_default : goal.returns-in_default
returns-in_default c = relabel-unsound _ (sym (unsound-by _ _ c.count-counted.ensures c.in_default.is)) _

pub returns : goal.returns
returns c =
    let given = c.counted_names.ensures in
    let t = c.args.table.now in
    let bytes = all-places (λ k. k < 256) t 0 (λ i l. (c.shared_slice_known-1.given i).fits) in
    c.relabel.ensures (rw (given.0, given.1) (names-known t bytes c.count-counted.ensures c.in-Some.is))
