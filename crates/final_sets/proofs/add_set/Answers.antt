-- `final_sets::add_set` meets its contract, by those of its callees. Assumes nothing.
use Rattle.final_sets.proofs.add_set.Goals as goal

pub returns : goal.returns
returns c = λ s rest h q. rw (c.add_row.ensures, (c.evaluate.ensures.right s rest h q).0)
