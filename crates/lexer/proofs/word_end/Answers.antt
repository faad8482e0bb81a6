-- `lexer::word_end` meets its contract: the first byte from the place reached on that does not go on a word is the first from
-- the place asked on. Assumes nothing.
use Prim.Native.Nat.{◌<◌}
use mathlib.Core.Path.{◌≡◌, refl, sym, ◌∙◌}
use mathlib.Core.Bool.{true}
use native.Mathlib.Omega.{arith}
use lib.ListN.{length, drop}
use Rattle.lexer.specs.Answers.{word_goes_on}
use Rattle.lexer.proofs.Ends.{word-ends, byte-there}
use Rattle.lexer.proofs.Ends as ends
use Rattle.lexer.proofs.word_end.Goals as goal
use Rattle.lexer.proofs.word_end.Goals.{In-loop-i}

-- a turn of the loop: the word goes on, so that there is a byte
more : (c : In-loop-i) → word_goes_on (drop c.loop-i.i c.args.text.now) ≡ true
more c = sym c.word_goes_on.ensures ∙ c.loop-i-test.true

there : (c : In-loop-i) → c.loop-i.i < length c.args.text.now
there c = byte-there c.args.text.now c.loop-i.i (more c)

pub loop-i-init : goal.loop-i-init
loop-i-init c = refl

pub overflow_add-i : goal.overflow_add-i
overflow_add-i c = omega (arith, there (goal.at.overflow_add-i c).In-loop-i)

pub loop-i-smaller : goal.loop-i-smaller
loop-i-smaller c = omega (arith, there (goal.at.loop-i-smaller c).In-loop-i)

pub loop-i-preserved : goal.loop-i-preserved
loop-i-preserved c =
    sym (ends.word-goes-on c.args.text.now c.loop-i.i (more (goal.at.loop-i-preserved c).In-loop-i)) ∙ c.loop-i.invariant

pub returns : goal.returns
returns c = sym (word-ends _ _ (sym c.word_goes_on.ensures ∙ c.loop-i-test.false)) ∙ c.loop-i.invariant
