-- `body_writer::copy` meets its contract, which is `copy_at`'s where there is room. Assumes nothing.
use Rattle.body_writer.proofs.PutLaws.{copied}
use Rattle.body_writer.proofs.copy.Goals as goal

pub returns : goal.returns
returns c = copied _ _ _ _ _ (λ i. (c.shared_slice_known-1.given i).fits) c.copy_at.ensures
