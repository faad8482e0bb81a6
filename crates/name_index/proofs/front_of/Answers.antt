-- `name_index::front_of` meets its contract: the number of a name's first bytes, or that of the first four and of those after them (Words). Assumes nothing.
use Prim.Native.Nat.{◌-◌, ◌≤◌}
use mathlib.Core.Path.{◌∙◌}
use native.Mathlib.Omega.{arith}
use lib.ListN.{length, take, drop}
use Rattle.byte_slices.specs.Parts.{part}
use Rattle.byte_slices.proofs.PartLaws.{length-part-le}
use Rattle.little_endian.proofs.NumberLaws.{fits_more}
use Rattle.name_index.proofs.Words.{front-short, front-is, front-joins}
use Rattle.name_index.proofs.front_of.Goals as goal
use Rattle.name_index.proofs.front_of.Goals.{After-part-first}

-- after the first four bytes there are at most four
rest-short : (c : After-part-first) → length (take (length c.part-first.result.now - 4) (drop 4 c.part-first.result.now)) ≤ 4
unfolding part
rest-short c =
    let first = c.part-first.result.now in
    omega (arith, length-part-le first 4 (length first - 4), front-short c.args.name.now first c.part-first.ensures)

pub returns-then-first-lt4 : goal.returns-then-first-lt4
returns-then-first-lt4 c =
    c.number.ensures.0 ∙ front-is c.args.name.now c.part-first.result.now c.part-first.ensures

pub number-requires-2 : goal.number-requires-2
number-requires-2 c = omega (arith, rest-short (goal.at.number-requires-2 c).After-part-first)

pub overflow_mul-result : goal.overflow_mul-result
overflow_mul-result c = omega (arith, fits_more _ 4 _ c.number-2.ensures.1 (rest-short (goal.at.overflow_mul-result c).After-part-first))

pub overflow_add-result : goal.overflow_add-result
overflow_add-result c = omega (arith, fits_more _ 4 _ c.number-2.ensures.1 (rest-short (goal.at.overflow_add-result c).After-part-first), c.get4.ensures.1)

pub returns : goal.returns
returns c =
    let joins = front-joins c.args.name.now c.part-first.result.now c.part-first.ensures c.if-first-lt4.false in
    omega (arith, joins, c.get4.ensures.0, c.number-2.ensures.0)
