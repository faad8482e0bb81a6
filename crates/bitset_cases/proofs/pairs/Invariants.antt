-- `bitset_cases::pairs`: the space keeps its length, though parts of it are lent.
use Rattle.std.proofs.Common.{◌≡◌, length}
use Rattle.bitset_cases.proofs.pairs.Given as goal

abbrev pub invariant-loop-w : goal.invariant-loop-w
invariant-loop-w g l = length l.space ≡ length l.fn.space
