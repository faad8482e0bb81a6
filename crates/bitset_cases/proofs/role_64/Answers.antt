-- `bitset_cases::role_64`: what is expected of bytes 8 and 0 follows from the contract of `insert`, by computation.
use Rattle.std.proofs.Common.{ℕ, List, ap, slice_index_or}
use Rattle.bitset.specs.Sets.{inserted, set_of, member, bit}
use Rattle.bitset_cases.proofs.role_64.Goals as goal

pub prove-unreachable-requires : goal.prove-unreachable-requires
unfolding inserted set_of member bit
prove-unreachable-requires c = c.if-prove.true (ap (λ (l : List ℕ). slice_index_or l 8 0) c.insert.ensures)

pub prove-unreachable-requires-2 : goal.prove-unreachable-requires-2
unfolding inserted set_of member bit
prove-unreachable-requires-2 c = c.if-prove-2.true (ap (λ (l : List ℕ). slice_index_or l 0 0) c.insert.ensures)
