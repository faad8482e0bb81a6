-- `lexer::mark` meets its contract: the whole table is tested once against the rule, and the test is carried to every byte.
-- Assumes nothing.
use Prim.Native.Nat.{ℕ}
use mathlib.Core.Path.{refl}
use borrow.Author.Rules.{rules}
use Rattle.lexer.specs.Class.{class_of}
use Rattle.lexer.specs.Answers.{mark_of}
use Rattle.lexer.specs.declared.TheConstants.{CLASSES}
use Rattle.lexer.proofs.Marks.{entry}
use Rattle.lexer.proofs.mark.Goals as goal

pub returns : goal.returns
unfolding class_of
returns c = entry (λ (k : ℕ). mark_of (class_of k)) 256 CLASSES refl c.args.b (search rules)
