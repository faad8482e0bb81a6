-- Blocks: a row that is none has no header, and a statement in no block is the same with its full names. By cases. Assumes nothing.
use mathlib.Core.Path.{◌≡◌, refl}
use mathlib.Core.Bool.{false}
use mathlib.Core.List.{[]}
use mathlib.Core.Option.{none}
use Rattle.lexer.specs.Forms.{Forms, closed, ended, word, part}
use Rattle.policy.specs.Statements.{Written, plain, class, declare, attributeset, gives, roletransition, constrain, validatetrans}
use Rattle.policy.specs.Grammar.{is_block, block_in}
use Rattle.policy.specs.Names.{full}
use Rattle.policy.specs.Reading.{in_blocks}

-- what is no block has no block's name
pub no_block : (f : Forms) → is_block f ≡ false → block_in f ≡ none
no_block closed h = refl
no_block ended h = refl
no_block (part at i r) h = refl
no_block (word at w r) h = rw h

-- at the whole-text level a name is its own full name
pub in-no-blocks : (w : Written) → in_blocks [] w ≡ w
unfolding full
in-no-blocks (declare (plain s v)) = refl
in-no-blocks (declare (class v ps)) = refl
in-no-blocks (attributeset f a s) = refl
in-no-blocks (gives r x y) = refl
in-no-blocks (roletransition r t c n) = refl
in-no-blocks (constrain c ps e) = refl
in-no-blocks (validatetrans c e) = refl
