-- `set_rows::insert_at` meets its contract: the part is lent, and what comes back is what `insert` made of it. Assumes nothing.
use Rattle.byte_slices.proofs.PartLaws.{put_back}
use Rattle.bitset.proofs.SetLaws.{length_inserted}
use Rattle.bitset.specs.Sets.{inserted}
use Rattle.set_rows.proofs.insert_at.Goals as goal

pub returns : goal.returns
returns c =
    let a = c.args in
    put_back a.table.now a.o a.w _ _ (λ p. inserted p a.n) _ c.range_of-place.ensures.start c.range_of-place.ensures.end
    (λ p. length_inserted p a.n) c.insert.ensures
