-- `questions::change` meets its contract: 11, then what a sound table answers. Assumes nothing.
use Prim.Native.Nat.{◌<◌}
use mathlib.Core.Path.{sym, ap, ◌∙◌}
use lib.Dec.{ltb}
use Rattle.table_laws.proofs.ListLaws.{all-places}
use Rattle.soundness.proofs.AnswerLaws.{unsound-by}
use Rattle.decisions.proofs.CountedLaws.{names-known, permissions-length, has-permission}
use Rattle.questions.proofs.Unsound.{change-unsound}
use Rattle.questions.proofs.change.Goals as goal

pub returns-in_default : goal.returns-in_default
returns-in_default c = change-unsound _ (sym (unsound-by _ _ c.count-counted.ensures c.in_default.is)) _

pub slice_bounds-permissions_of-end : goal.slice_bounds-permissions_of-end
slice_bounds-permissions_of-end c =
    let t = c.args.table.now in
    let bytes = all-places (λ k. k < 256) t 0 (λ i l. (c.shared_slice_known-1.given i).fits) in
    sym (permissions-length t bytes c.count-counted.ensures c.in-Some.is)

pub returns : goal.returns
returns c =
    let given = c.counted_names.ensures in
    let a = c.args in
    let t = a.table.now in
    let bytes = all-places (λ k. k < 256) t 0 (λ i l. (c.shared_slice_known-1.given i).fits) in
    let told = c.count-counted.ensures in
    let is = c.in-Some.is in
    c.change.ensures (rw (given.0, given.1) (names-known t bytes told is))
    (rw given.0 (λ l. ap (ltb a.permission) c.permissions_of.ensures ∙ has-permission t bytes told is a.class a.permission l))
