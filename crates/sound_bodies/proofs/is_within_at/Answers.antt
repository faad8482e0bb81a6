-- `sound_bodies::is_within_at` meets its contract: the bytes that the total fills have no number that reaches it. Assumes nothing.
use mathlib.Core.Path.{◌∙◌}
use native.Mathlib.Omega.{arith}
use borrow.Author.Tests.{le-leb}
use Rattle.sound_bodies.proofs.WithinLaws.{within-filled, within-rest}
use Rattle.sound_bodies.proofs.is_within_at.Goals as goal

pub returns-then-width-filled : goal.returns-then-width-filled
returns-then-width-filled c =
    let a = c.args in rw (le-leb _ _ c.if-width-filled.true) (within-filled a.table.now a.place a.width a.total c.if-width-filled.true)

pub returns-else-width-filled : goal.returns-else-width-filled
returns-else-width-filled c =
    let a = c.args in
    c.is_within_at.ensures ∙ within-rest a.table.now a.place a.width a.total (omega arith)
