-- `set_code::join` meets its contract: each operator is one operation on sets. Assumes nothing.
use borrow.Author.Tests.{ne_eqb}
use Rattle.bitset.specs.Sets.{union_of, intersection_of, symmetric_difference_of, difference_of}
use Rattle.set_code.specs.Evaluation.{joined_by}
use Rattle.set_code.proofs.join.Goals as goal

pub returns-in-2049 : goal.returns-in-2049
unfolding joined_by difference_of
returns-in-2049 c = rw c.in-2049.is c.difference.ensures

pub returns-in-2050 : goal.returns-in-2050
unfolding joined_by intersection_of
returns-in-2050 c = rw c.in-2050.is c.intersection.ensures

pub returns-in-2052 : goal.returns-in-2052
unfolding joined_by symmetric_difference_of
returns-in-2052 c = rw c.in-2052.is c.exclusive_or.ensures

pub returns-in_default : goal.returns-in_default
unfolding joined_by union_of
returns-in_default c =
    let no = c.in_default.in_default-own.rest in
    simp (ne_eqb _ _ no.1, ne_eqb _ _ no.0.1, ne_eqb _ _ no.0.0.1) c.union.ensures
