-- `little_endian::put2` meets its contract: two stores are one `put`. Assumes nothing.
use Prim.Native.Nat.{suc, ◌+◌}
use mathlib.Core.Path.{◌≡◌}
use native.Mathlib.Omega.{arith}
use lib.ListN.{length-set}
use Rattle.policy.specs.Basics.{le}
use Rattle.byte_slices.proofs.PartLaws.{sets-put}
use Rattle.little_endian.proofs.put2.Goals as goal

pub bounds-bytes-at-2 : goal.bounds-bytes-at-2
bounds-bytes-at-2 c = simp length-set (omega arith)

pub shape_of-bytes : goal.shape_of-bytes
shape_of-bytes c = simp length-set

pub returns : goal.returns
unfolding le
returns c =
    let next : c.args.at + 1 ≡ suc c.args.at = omega arith in
    rw next (sets-put c.args.bytes.now c.args.at (le 2 c.args.n) (omega arith))
