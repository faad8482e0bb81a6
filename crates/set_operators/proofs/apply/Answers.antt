-- `set_operators::apply` meets its contract, operator by operator. Assumes nothing.
use Rattle.set_operators.proofs.OperatorLaws.{union-byte, intersection-byte, exclusive-or-byte, difference-byte, second-byte}
use Rattle.set_operators.proofs.apply.Goals as goal

pub returns-in-Union : goal.returns-in-Union
returns-in-Union c = rw c.in-Union.is (union-byte _ _ c.ranges.a.fits c.ranges.b.fits)

pub returns-in-Intersection : goal.returns-in-Intersection
returns-in-Intersection c = rw c.in-Intersection.is (intersection-byte _ _ c.ranges.a.fits c.ranges.b.fits)

pub returns-in-ExclusiveOr : goal.returns-in-ExclusiveOr
returns-in-ExclusiveOr c = rw c.in-ExclusiveOr.is (exclusive-or-byte _ _ c.ranges.a.fits c.ranges.b.fits)

pub returns-in-Difference : goal.returns-in-Difference
returns-in-Difference c = rw c.in-Difference.is (difference-byte _ _ c.ranges.a.fits c.ranges.b.fits)

pub returns-in-Second : goal.returns-in-Second
returns-in-Second c = rw c.in-Second.is (second-byte _ _ c.ranges.a.fits c.ranges.b.fits)
