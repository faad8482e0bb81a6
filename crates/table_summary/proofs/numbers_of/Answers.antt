-- `table_summary::numbers_of` meets its contract: a turn puts one number, and no more than they are. Assumes nothing.
use mathlib.Core.Path.{refl}
use Rattle.table_summary.proofs.SummaryLaws.{put-none, put_next, put_all}
use Rattle.table_summary.proofs.numbers_of.Goals as goal

pub loop-at-init : goal.loop-at-init
loop-at-init c = put-none _

pub loop-at-preserved : goal.loop-at-preserved
loop-at-preserved c =
    put_next _ _ c.loop-at.invariant c.loop-at-test.true (c.number_at.ensures refl) c.four_bytes.ensures

pub returns : goal.returns
returns c = put_all c.loop-at.invariant c.loop-at-test.false
