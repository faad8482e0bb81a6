-- `set_code::start` meets its contract, by cases of the operator. Assumes nothing.
use borrow.Author.Tests.{ne_eqb}
use Rattle.set_code.proofs.start.Goals as goal

pub returns-in-2048 : goal.returns-in-2048
returns-in-2048 c = rw c.in-2048.is

pub returns-in-2049 : goal.returns-in-2049
returns-in-2049 c = rw c.in-2049.is

pub returns-in-2050 : goal.returns-in-2050
returns-in-2050 c = rw c.in-2050.is

pub returns-in_default : goal.returns-in_default
returns-in_default c =
    let no = c.in_default.in_default-own.rest in
    simp (ne_eqb _ _ no.1, ne_eqb _ _ no.0.1, ne_eqb _ _ no.0.0.1)
