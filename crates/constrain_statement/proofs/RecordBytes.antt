-- The four fields of a constraint's record, put one after the other, are one `put` of the record, where there is room for it. Assumes nothing.
use mathlib.Core.Path.{◌≡◌}
use mathlib.Core.List.{List, ◌++◌}
use Prim.Native.Nat.{ℕ, ◌+◌, ◌*◌}
use native.Mathlib.Omega.{arith}
use Rattle.byte_slices.specs.Parts.{put}
use Rattle.byte_slices.proofs.PartLaws.{put_then}
use Rattle.policy.specs.Basics.{le}
use Rattle.policy.specs.Encode.{constraint_bytes}
use Rattle.constrain_statement.specs.ConstrainWrites.{record_with}
use Rattle.constrain_statement.specs.Limits.{Records}

pub stored : (t : List ℕ) (n c m first rows : ℕ) {p q s u : List ℕ}
    → p ≡ put t (10 * n) (le 2 c) → q ≡ put p (10 * n + 2) (le 4 m) → s ≡ put q (10 * n + 6) (le 2 first) → u ≡ put s (10 * n + 8) (le 2 rows)
    → Records 10 (constraint_bytes (record_with c m first rows)) t u n
unfolding le
stored t n c m first rows class mask first-row count room =
    let o = 10 * n in
    put_then t o (le 2 c ++ (le 4 m ++ le 2 first)) (le 2 rows) (omega arith)
    (put_then t o (le 2 c ++ le 4 m) (le 2 first) (omega arith) (put_then t o (le 2 c) (le 4 m) (omega arith) class (omega arith) mask) (omega arith) first-row)
    (omega arith) count
