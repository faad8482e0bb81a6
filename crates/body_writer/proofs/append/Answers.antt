-- `body_writer::append` meets its contract: a copy, with room or without. Assumes nothing.
use mathlib.Core.Path.{refl}
use native.Mathlib.Omega.{arith}
use Rattle.body_writer.proofs.PutLaws.{append-all, append-none}
use Rattle.body_writer.proofs.append.Goals as goal

pub returns-then-table-at : goal.returns-then-table-at
returns-then-table-at c = λ h. append-none _ _ _ _ _ h (omega (arith, c.if-table-at.true)) _

pub returns-then-table-at-2 : goal.returns-then-table-at-2
returns-then-table-at-2 c = λ h. append-none _ _ _ _ _ h (omega (arith, c.if-table-at-2.true)) _

pub returns : goal.returns
returns c = λ h. append-all _ _ _ _ _ h c.copy.ensures _ refl
