-- `name_spelling::read_part` meets its contract: the bytes so far go on the part, and are hashed. Assumes nothing.
use Prim.Native.Nat.{◌-◌}
use Rattle.name_spelling.specs.Spelling.{ReadTo}
use Rattle.name_spelling.proofs.read_part.Given as goal

abbrev pub invariant-loop-hash : goal.invariant-loop-hash
invariant-loop-hash l = ReadTo l.table l.from l.past l.before l.hash l.i

abbrev pub decreases-loop-hash : goal.decreases-loop-hash
decreases-loop-hash l = l.past - l.i
