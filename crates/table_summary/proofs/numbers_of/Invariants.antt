-- `table_summary::numbers_of` meets its contract: a turn puts one number, and no more than they are. Assumes nothing.
use mathlib.Core.List.{◌++◌}
use Rattle.table_summary.proofs.SummaryLaws.{Put}
use Rattle.table_summary.proofs.numbers_of.Given as goal

abbrev pub invariant-loop-at : goal.invariant-loop-at
invariant-loop-at l = Put (l.first ++ l.permissions) l.numbers l.at
