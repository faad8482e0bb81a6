-- `table_summary::permission_place` meets its contract: a permission's number is "class x 32 + its place". Assumes nothing.
use native.Mathlib.Omega.{arith}
use mathlib.Core.Path.{◌∙◌}
use Rattle.table_summary.proofs.FoundNumbers.{permission-in, permission-out}
use Rattle.table_summary.proofs.permission_place.Goals as goal

pub returns-then-class-ge-MAX : goal.returns-then-class-ge-MAX
returns-then-class-ge-MAX c = λ s. permission-out _ s 32 _ _ c.if-class-ge-MAX.true

pub returns-then-number-first : goal.returns-then-number-first
returns-then-number-first c = λ s.
    let a = c.args in
    absurd (omega (arith, c.number_of-number.ensures ∙ permission-in a.table.now s 32 a.word.now a.class))

pub returns : goal.returns
returns c = λ s.
    let a = c.args in
    omega (arith, c.number_of-number.ensures ∙ permission-in a.table.now s 32 a.word.now a.class)
