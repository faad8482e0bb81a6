-- `table_parts::entry_place` meets its contract: 11, then 12. Assumes nothing.
use Rattle.std.proofs.lemmas.Result.{err_from_is_err_and}
use Rattle.table_parts.proofs.AskedTable.{entry-unsound}
use Rattle.table_parts.proofs.entry_place.Goals as goal

pub returns-in_err-require_sound : goal.returns-in_err-require_sound
returns-in_err-require_sound c =
    let unsound = c.in_err-require_sound.ensures in
    let p = err_from_is_err_and c.from_residual.result c.from_residual.ensures.1 in
    rw (p.1, p.2, unsound.unsound) (entry-unsound _ unsound.err _ _)
