-- `parser::parse` meets its contract: the chains are cleared, no block is open, and then the text is read. Assumes nothing.
use native.Mathlib.Omega.{arith}
use Rattle.parser.proofs.LoopInvariant.{parses}
use Rattle.parser.proofs.parse.Goals as goal

pub returns : goal.returns
returns c =
    parses c.clear.ensures c.start.ensures
    (omega (arith, c.clear-arg-1.given.0)) c.parse_cleared.ensures
