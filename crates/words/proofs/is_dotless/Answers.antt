-- `words::is_dotless` meets its contract: the first part is the whole word. Assumes nothing.
use Rattle.words.proofs.Dots.{dotless-by}
use Rattle.words.proofs.is_dotless.Goals as goal

pub returns : goal.returns
returns c = rw c.part_end.ensures (dotless-by _)
