-- A mask of 32 bits has no bit from 32 on. Assumes nothing.
use Rattle.std.proofs.Common.{◌≡◌, ℕ, ◌^◌, ◌<◌, ◌≤◌, false, lt_of_lt_of_le, arith}
use native.Mathlib.Nat.{div-eq_of_lt, pow-le-pow_right}
use Rattle.bitset.specs.Sets.{bit}

pub bit_past : (m k : ℕ) → m < 4294967296 → 32 ≤ k → bit m k ≡ false
unfolding bit
bit_past m k small h =
    let below : m < 2 ^ k = lt_of_lt_of_le small (pow-le-pow_right {n = 2} (omega arith) h) in
    rw (div-eq_of_lt below)
