-- `table_reader::u32_at` meets its contract: the four bytes, or as many of them as there are, since past the end they read 0. Assumes nothing.
use Prim.Native.Nat.{ℕ, ◌≤◌}
use mathlib.Core.Path.{sym, ap, subst, ◌∙◌}
use mathlib.Core.List.{List}
use native.Mathlib.Omega.{arith}
use lib.ListN.{length}
use Rattle.byte_slices.specs.Parts.{part}
use Rattle.byte_slices.proofs.PartLaws.{length-part-le}
use Rattle.policy.specs.Basics.{unle}
use Rattle.little_endian.proofs.NumberLaws.{fits_more}
use Rattle.table_reader.proofs.u32_at.Goals as goal
use Rattle.table_reader.proofs.u32_at.Goals.{After-part}

short : (c : After-part) → length c.part.result.now ≤ 4
short c =
    let a = c.args in
    subst (λ (l : List ℕ). length l ≤ 4) (sym c.part.ensures) (length-part-le a.table.now a.at 4)

pub number-requires : goal.number-requires
number-requires c = omega (arith, short (goal.at.number-requires c).After-part)

pub overflow_cast-result : goal.overflow_cast-result
overflow_cast-result c = omega (arith, fits_more (length c.part.result.now) 4 c.number.result c.number.ensures.1 (short (goal.at.overflow_cast-result c).After-part))

pub returns-then-saturating_sub-lt4 : goal.returns-then-saturating_sub-lt4
unfolding part
returns-then-saturating_sub-lt4 c = c.number.ensures.0 ∙ ap unle c.part.ensures
