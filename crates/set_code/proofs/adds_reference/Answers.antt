-- `set_code::adds_reference` meets its contract, by cases of the operator. Assumes nothing.
use native.Mathlib.Omega.{arith}
use mathlib.Core.Bool.{false≢true}
use borrow.Author.Tests.{ne_eqb}
use Rattle.set_code.proofs.adds_reference.Goals as goal

pub returns-then-unit-ge-ALL : goal.returns-then-unit-ge-ALL
returns-then-unit-ge-ALL c p = absurd (false≢true p)

pub returns-in-2049 : goal.returns-in-2049
returns-in-2049 c p = absurd (false≢true p)

pub returns-in-2050 : goal.returns-in-2050
returns-in-2050 c p = absurd (false≢true p)

pub returns-in-2052 : goal.returns-in-2052
returns-in-2052 c p = absurd (false≢true p)

pub returns-in_default : goal.returns-in_default
returns-in_default c =
    let no = c.in_default.in_default-own.rest in
    λ p. (omega arith, λ a b. simp (ne_eqb _ _ no.1, ne_eqb _ _ no.0.1, ne_eqb _ _ no.0.0.1))
