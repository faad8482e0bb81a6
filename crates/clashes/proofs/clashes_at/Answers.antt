-- `clashes::clashes_at` meets its contract: the operands at the place are the transition's. Assumes nothing.
use Rattle.clashes.specs.Clashes.{clashes_of}
use Rattle.clashes.proofs.clashes_at.Goals as goal

pub returns : goal.returns
unfolding clashes_of
returns c =
    let reads = c.transition.ensures in
    rw (← reads.0, ← reads.1, ← reads.2, ← reads.3) c.clash_between.ensures
