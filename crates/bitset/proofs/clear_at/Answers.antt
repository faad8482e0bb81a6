-- `bitset::clear_at` meets its contract: the part is lent, and what comes back is what `clear` made of it. Assumes nothing.
use Rattle.byte_slices.proofs.PartLaws.{put_back}
use Rattle.bitset.proofs.SetLaws.{length-emptied}
use Rattle.bitset.specs.Sets.{emptied}
use Rattle.bitset.proofs.clear_at.Goals as goal

pub returns : goal.returns
returns c =
    let a = c.args in
    put_back a.table.now a.o a.w _ _ emptied _ c.range_of-place.ensures.start c.range_of-place.ensures.end
    length-emptied c.clear.ensures
