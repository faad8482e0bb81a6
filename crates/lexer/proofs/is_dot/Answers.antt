-- `lexer::is_dot` meets its contract: the dot has a mark of its own. Assumes nothing.
use Rattle.lexer.specs.Class.{class_of}
use Rattle.lexer.proofs.Marks.{dot-mark}
use Rattle.lexer.proofs.is_dot.Goals as goal

pub returns : goal.returns
returns c = dot-mark (class_of c.args.b) _ c.mark.ensures
