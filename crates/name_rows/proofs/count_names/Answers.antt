-- `name_rows::count_names` meets its contract. The loop's invariant: so many names are before the place. Assumes nothing.
use Rattle.name_rows.proofs.Rows.{counted-more}
use Rattle.name_rows.proofs.count_names.Goals as goal

pub loop-word-preserved : goal.loop-word-preserved
loop-word-preserved c = counted-more c.loop-word.invariant c.in-Some.ensures
