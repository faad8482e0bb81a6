-- `table_summary::summarize` meets its contract: the count tells whether the table is sound, and what its names declare. Assumes nothing.
use Prim.Native.Nat.{◌<◌}
use Rattle.table_laws.proofs.ListLaws.{all-places}
use Rattle.soundness.proofs.AnswerLaws.{sound-by, unsound-by}
use Rattle.table_summary.proofs.SummaryLaws.{left_alone, summarized}
use Rattle.table_summary.proofs.summarize.Goals as goal

pub returns-in_default : goal.returns-in_default
returns-in_default c =
    let not_sound = unsound-by _ _ c.count-counted.ensures c.in_default.is in
    (not_sound, left_alone _ _ not_sound)

pub returns : goal.returns
returns c =
    let t = c.args.table.now in
    let bytes = all-places (λ k. k < 256) t 0 (λ i l. (c.shared_slice_known-1.given i).fits) in
    let is = c.in-Some.is in (
      sound-by _ _ c.count-counted.ensures is,
      summarized t bytes c.count-counted.ensures is c.special_numbers-special.ensures c.numbers_of-numbers.ensures _,
    )
