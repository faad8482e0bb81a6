-- `lexer::starts_part` meets its contract: the mark of the class with which a part starts is no other's. Assumes nothing.
use Rattle.lexer.specs.Class.{class_of}
use Rattle.lexer.proofs.Marks.{letter}
use Rattle.lexer.proofs.starts_part.Goals as goal

pub returns : goal.returns
returns c = letter (class_of c.args.b) _ c.mark.ensures
