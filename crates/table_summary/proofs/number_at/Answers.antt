-- `table_summary::number_at` meets its contract: the first eleven, then the others. Assumes nothing.
use Rattle.table_summary.proofs.SummaryLaws.{number-first, number-after}
use Rattle.table_summary.proofs.number_at.Goals as goal

pub returns-then-at-lt-PERMISSIONS_AT : goal.returns-then-at-lt-PERMISSIONS_AT
returns-then-at-lt-PERMISSIONS_AT c = λ long. let a = c.args in number-first a.first.now a.permissions.now long a.at c.if-at-lt-PERMISSIONS_AT.true

pub returns-else-at-lt-PERMISSIONS_AT : goal.returns-else-at-lt-PERMISSIONS_AT
returns-else-at-lt-PERMISSIONS_AT c = λ long. let a = c.args in number-after a.first.now a.permissions.now long a.at c.if-at-lt-PERMISSIONS_AT.false
