-- `name_spelling::starts_part` meets its contract. Assumes nothing.
use native.Mathlib.Omega.{arith}
use borrow.Author.Tests.{le-ltb, lt-ltb}
use Rattle.name_spelling.proofs.starts_part.Goals as goal

pub returns-then-past-at : goal.returns-then-past-at
returns-then-past-at c =
    let a = c.args in
    rw (le-ltb a.at a.past c.if-past-at.true)

pub returns : goal.returns
returns c =
    let a = c.args in
    rw (lt-ltb a.at a.past (omega (arith, c.if-past-at.false))) c.starts_part.ensures
