-- `lexer::next` meets its contract: the first of the tokens that are left at the place reached is the first of those from the place
-- asked on. Assumes nothing.
use Prim.Native.Nat.{◌-◌}
use mathlib.Core.Path.{◌≡◌}
use lib.ListN.{length, drop}
use Rattle.lexer.specs.Scan.{between}
use Rattle.lexer.specs.Token.{tokens_from, first_of, token_at}
use Rattle.lexer.proofs.next.Given as goal

abbrev pub invariant-loop-i : goal.invariant-loop-i
invariant-loop-i l = first_of (tokens_from (drop l.i l.text) between l.i) ≡ token_at l.text l.at

abbrev pub decreases-loop-i : goal.decreases-loop-i
decreases-loop-i l = length l.text - l.i
