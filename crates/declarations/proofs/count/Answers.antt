-- `declarations::count` meets its contract: the word of the sort counts its entries. Assumes nothing.
use Rattle.declarations.proofs.StatusLaws.{counts, no_index, no-sort}
use native.Mathlib.Omega.{arith}
use Rattle.declarations.proofs.count.Goals as goal

pub returns-then-symbols-lt-SYMBOL_BYTES : goal.returns-then-symbols-lt-SYMBOL_BYTES
returns-then-symbols-lt-SYMBOL_BYTES c = no_index c.if-symbols-lt-SYMBOL_BYTES.true

pub returns-then-sort-gt-PERMISSION : goal.returns-then-sort-gt-PERMISSION
returns-then-sort-gt-PERMISSION c = no-sort c.if-sort-gt-PERMISSION.true

pub returns : goal.returns
returns c = counts c.entered.ensures (omega (arith, c.if-sort-gt-PERMISSION.false))
