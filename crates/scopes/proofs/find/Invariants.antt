-- `scopes::find` meets its contract. The loop's invariant: the first n bytes of the scope are that of the blocks that are left, and the tries that are left
-- decide as all do (TryLaws). The measure is n: each cut leaves less. Assumes nothing.
use Prim.Native.Nat.{◌≤◌}
use Rattle.scopes.proofs.TryLaws.{Outward}
use Rattle.scopes.proofs.find.Given as goal

abbrev pub invariant-loop-n : goal.invariant-loop-n
invariant-loop-n l = (l.n ≤ 64) × Outward l.symbols l.family l.name l.n

abbrev pub decreases-loop-n : goal.decreases-loop-n
decreases-loop-n l = l.n
