-- `constraints::has_permission` meets its contract: the permission's bit of the mask, which has 32. Assumes nothing.
use Rattle.bitset.specs.Sets.{bit}
use Rattle.constraints.proofs.MaskLaws.{bit_past}
use Rattle.std.proofs.Common.{sym, refl, arith, le-ltb}
use Rattle.constraints.proofs.has_permission.Goals as goal

pub returns-then-permission-lt-MAX : goal.returns-then-permission-lt-MAX
unfolding bit
returns-then-permission-lt-MAX c = refl

pub returns-else-permission-lt-MAX : goal.returns-else-permission-lt-MAX
returns-else-permission-lt-MAX c =
    rw (le-ltb _ _ c.if-permission-lt-MAX.false) (sym (bit_past c.args.constraint.mask c.args.permission (omega arith) c.if-permission-lt-MAX.false))
