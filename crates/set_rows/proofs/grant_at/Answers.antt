-- `set_rows::grant_at` meets its contract: the part is lent, and what comes back is what `grant` made of it. Assumes nothing.
use Rattle.set_rows.proofs.GrantLaws.{length-granted}
use Rattle.byte_slices.proofs.PartLaws.{put_back}
use Rattle.bitset.specs.Relations.{granted}
use Rattle.set_rows.proofs.grant_at.Goals as goal

pub returns : goal.returns
returns c =
    let a = c.args in
    put_back a.table.now a.o a.size _ _ (λ p. granted a.w p a.us.now a.rs.now) _ c.range_of-place.ensures.start c.range_of-place.ensures.end
    (λ p. length-granted a.w p a.us.now a.rs.now) c.grant.ensures
