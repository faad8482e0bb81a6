-- "An attribute always stands for its final set": where fault 8 is not given, the final sets satisfy their own equation, each attribute
-- being the union of the S in its statements read over these same sets, and no other sets do. Assumes nothing.
use Prim.Native.Nat.{ℕ}
use mathlib.Core.Path.{◌≡◌}
use mathlib.Core.Option.{none}
use Rattle.policy.specs.Statements.{Family, Policy}
use Rattle.policy.specs.Meaning.{Set, union_of, nested, final}
use Rattle.policy.specs.Faults.{cycle}
use Rattle.policy.specs.Accepted.{Accepted}
use Rattle.meaning_laws.proofs.FinalSets.{only, settled}
use Rattle.meaning_laws.proofs.NoLongChain.{no-long-chain}
use Rattle.meaning_laws.proofs.CyclePlace.{no-cycle-exactly}

-- THE FIXPOINT
pub final-is-union : (p : Policy) → Accepted p → cycle p ≡ none → (f : Family) (a n : ℕ) → final p f a n ≡ union_of p f (final p f) a n
unfolding final nested
final-is-union p ok h f a n = settled p f 64 a n (no-long-chain p f ok ((no-cycle-exactly p ok).0 h f) a)

-- AND THE ONLY ONE
pub final-is-only : (p : Policy) → Accepted p → cycle p ≡ none → (f : Family) (s : ℕ → Set)
    → ((a n : ℕ) → s a n ≡ union_of p f s a n) → (a n : ℕ) → s a n ≡ final p f a n
unfolding final
final-is-only p ok h f s eqn a n = only p f s eqn 64 a n (no-long-chain p f ok ((no-cycle-exactly p ok).0 h f) a)
