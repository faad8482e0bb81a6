-- `bitset::ones_of` meets its contract. Assumes nothing.
use borrow.Author.Rules.{rules}
use lib.Count.{ones-le}
use native.Mathlib.Omega.{arith}
use Rattle.bitset.proofs.ones_of.Goals as goal

pub overflow_cast-result : goal.overflow_cast-result
overflow_cast-result c = omega (arith, ones-le 8 c.args.b c.ranges.b.fits)

pub returns : goal.returns
returns c = (search rules, ones-le 8 c.args.b c.ranges.b.fits)
