-- `set_rows::combine_at` meets its contract: the part is lent, and what comes back is what `combine` made of it. Assumes nothing.
use Rattle.set_operators.proofs.OperatorLaws.{length-combined}
use Rattle.byte_slices.proofs.PartLaws.{put_back}
use Rattle.set_operators.specs.Operators.{combined}
use Rattle.set_rows.proofs.combine_at.Goals as goal

pub returns : goal.returns
returns c =
    let a = c.args in
    put_back a.table.now a.o a.w _ _ (λ p. combined a.op p a.src.now) _ c.range_of-place.ensures.start c.range_of-place.ensures.end
    (λ p. length-combined a.op p a.src.now) c.combine.ensures
