-- `name_spelling::goes_on` meets its contract. Assumes nothing.
use native.Mathlib.Omega.{arith}
use borrow.Author.Tests.{le-ltb, lt-ltb}
use Rattle.name_spelling.proofs.goes_on.Goals as goal

pub returns-then-past-at : goal.returns-then-past-at
returns-then-past-at c =
    let a = c.args in
    rw (le-ltb a.at a.past c.if-past-at.true)

pub returns : goal.returns
returns c =
    let a = c.args in
    rw (lt-ltb a.at a.past (omega (arith, c.if-past-at.false))) c.is_in_part.ensures
