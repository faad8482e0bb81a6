-- `name_chains::find` meets its contract. The loop's invariant: so many others of the chain were compared, the next to compare is the entry whose first
-- word is `at`, and what the try says is what it says from there on (TryLaws). Assumes nothing.
use Prim.Native.Nat.{◌<◌}
use Rattle.name_chains.proofs.FindLaws.{Walks}
use Rattle.name_chains.proofs.find.Given as goal

abbrev pub invariant-loop-others : goal.invariant-loop-others
invariant-loop-others l = (l.at < 4096) × Walks l.symbols l.family l.name l.chain.count l.at l.others
