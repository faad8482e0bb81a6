-- `code_reader::statement_end` meets its contract: the first tag ahead ends the operands. Assumes nothing.
use lib.Dec.{leb}
use mathlib.Core.Path.{◌≡◌}
use Rattle.std.proofs.Common.{rules, tests}
use Rattle.std.specs.List.{position}
use Rattle.std.proofs.lemmas.Iterator.{YieldsList-from_slice}
use Rattle.std.proofs.lemmas.Iterator.Search.{position_from_yields_List}
use Rattle.code_reader.proofs.OperandLaws.{operands-end}
use Rattle.code_reader.proofs.statement_end.Goals as goal

pub returns : goal.returns
returns c =
    let found : c.position.result ≡ position (leb 4096) c.rest-ahead.result.now =
    position_from_yields_List (leb 4096) _ _ c.position.result c.position.ensures.ran (YieldsList-from_slice _ c.iter.ensures.rest)
    (λ x b q k. search (rules, tests)) in
    rw (c.unwrap_or-operands.ensures, found, operands-end c.rest-ahead.result.now, c.rest-ahead.ensures)
