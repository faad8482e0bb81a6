-- `lexer::is_in_part` meets its contract: the marks of the classes with which a part goes on are below the others. Assumes nothing.
use Rattle.lexer.specs.Class.{class_of}
use Rattle.lexer.proofs.Marks.{part-mark}
use Rattle.lexer.proofs.is_in_part.Goals as goal

pub returns : goal.returns
returns c = part-mark (class_of c.args.b) _ c.mark.ensures
