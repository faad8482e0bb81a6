-- `lexer::word_end` meets its contract: the first byte from the place reached on that does not go on a word is the first from
-- the place asked on. Assumes nothing.
use Prim.Native.Nat.{◌-◌}
use mathlib.Core.Path.{◌≡◌}
use lib.ListN.{length, drop}
use Rattle.lexer.specs.Answers.{first_from, ends_word}
use Rattle.lexer.proofs.word_end.Given as goal

abbrev pub invariant-loop-i : goal.invariant-loop-i
invariant-loop-i l = first_from (drop l.i l.text) ends_word l.i ≡ first_from (drop l.at l.text) ends_word l.at

abbrev pub decreases-loop-i : goal.decreases-loop-i
decreases-loop-i l = length l.text - l.i
