-- `lexer::comment_end` meets its contract: the first byte from the place reached on that ends a comment is the first from
-- the place asked on. Assumes nothing.
use Prim.Native.Nat.{◌-◌}
use mathlib.Core.Path.{◌≡◌}
use lib.ListN.{length, drop}
use Rattle.lexer.specs.Class.{ends_comment}
use Rattle.lexer.specs.Answers.{first_from}
use Rattle.lexer.proofs.comment_end.Given as goal

abbrev pub invariant-loop-i : goal.invariant-loop-i
invariant-loop-i l = first_from (drop l.i l.text) ends_comment l.i ≡ first_from (drop l.at l.text) ends_comment l.at

abbrev pub decreases-loop-i : goal.decreases-loop-i
decreases-loop-i l = length l.text - l.i
