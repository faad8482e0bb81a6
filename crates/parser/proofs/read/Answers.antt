-- `parser::read` meets its contract: the form is judged first, and a statement of good form is read by one step. Assumes nothing.
use mathlib.Core.Path.{refl, sym, ap, ◌∙◌}
use mathlib.Core.Bool.{not, false≢true}
use native.Mathlib.Omega.{arith}
use Rattle.std.proofs.lemmas.Result.{err_from_is_err_and}
use Rattle.parser.proofs.LoopInvariant.{roomy}
use Rattle.parser.proofs.OneStatement.{formless, stated}
use Rattle.parser.proofs.read.Goals as goal

-- the lent memory is as long as its types say
pub returns-then-not-has_room : goal.returns-then-not-has_room
returns-then-not-has_room c =
    let room = c.has_room.ensures
    ∙ roomy c.has_room-arg-2-1.given c.has_room-arg-4-1.given
    c.has_room-arg-6-1.given in
    absurd (false≢true (sym (ap not room) ∙ c.if-not-has_room.true-raw))

pub returns-in_default : goal.returns-in_default
returns-in_default c = λ at e. formless (c.statement_form.ensures at e) c.in_default.is

pub returns-in_err-progress : goal.returns-in_err-progress
returns-in_err-progress c =
    let p = err_from_is_err_and c.from_residual.result c.from_residual.ensures.1 in
    λ at e.
    rw (p.1, p.2) (
    stated (c.statement_form.ensures at e) c.in-Some.is c.place_unit-unit.ensures (c.in_err-progress.ensures at e)
    (omega (arith, c.has_room-arg-2-1.given)) (omega (arith, c.has_room-arg-4-1.given)) (omega (arith, c.has_room-arg-6-1.given)) _ refl
    )

pub returns : goal.returns
returns c =
    λ at e.
    stated (c.statement_form.ensures at e) c.in-Some.is c.place_unit-unit.ensures (c.in_ok-progress.ensures at e)
    (omega (arith, c.has_room-arg-2-1.given)) (omega (arith, c.has_room-arg-4-1.given)) (omega (arith, c.has_room-arg-6-1.given)) _ refl
