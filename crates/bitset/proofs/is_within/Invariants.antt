-- `bitset::is_within` meets its contract: what is gathered is 0 where no byte passed has a bit beyond its mask. Assumes nothing.
use Rattle.std.proofs.Common.{◌≡◌, ℕ, ◌<◌, ◌-◌, ◌↔◌, get_or}
use lib.Bits.{bit_and}
use Rattle.bitset.specs.Sets.{mask_of}
use Rattle.bitset.proofs.is_within.Given as goal

abbrev pub invariant-loop-i : goal.invariant-loop-i
invariant-loop-i l = (l.beyond ≡ 0) ↔ ((k : ℕ) → k < l.i → bit_and (get_or l.set k 0) (255 - mask_of l.total k) ≡ 0)
