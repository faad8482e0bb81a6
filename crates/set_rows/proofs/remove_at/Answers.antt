-- `set_rows::remove_at` meets its contract: the part is lent, and what comes back is what `remove` made of it. Assumes nothing.
use Rattle.byte_slices.proofs.PartLaws.{put_back}
use Rattle.bitset.proofs.SetLaws.{length_removed}
use Rattle.bitset.specs.Sets.{removed}
use Rattle.set_rows.proofs.remove_at.Goals as goal

pub returns : goal.returns
returns c =
    let a = c.args in
    put_back a.table.now a.o a.w _ _ (λ p. removed p a.n) _ c.range_of-place.ensures.start c.range_of-place.ensures.end
    (λ p. length_removed p a.n) c.remove.ensures
