-- `symbols::next_entry` meets its contract: what is in a section that is cut at the end of the table is in the section. Assumes nothing.
use native.Mathlib.Omega.{arith}
use Rattle.symbols.proofs.EntryLaws.{stands, none-past}
use Rattle.symbols.proofs.next_entry.Goals as goal

pub returns-then-last-at : goal.returns-then-last-at
returns-then-last-at c = none-past _ _ _ c.min-last.ensures _ c.if-last-at.true

pub entry_at-requires : goal.entry_at-requires
entry_at-requires c = (c.if-last-at.false, omega (arith, c.min-last.ensures))

pub returns : goal.returns
returns c = stands _ _ _ c.min-last.ensures _ _ c.entry_at.ensures
