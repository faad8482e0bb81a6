-- `declarations::add_name` meets its contract: each answer by what the symbols said of the name. Assumes nothing.
use Rattle.std.proofs.lemmas.Result.{err_from_is_err_and}
use Rattle.declarations.proofs.NameAnswers.{name-taken, name-full, name-added}
use Rattle.declarations.proofs.Refusals.{no-room-refuses}
use Rattle.declarations.proofs.add_name.Goals as goal

pub returns-in_err-number : goal.returns-in_err-number
returns-in_err-number c =
    let p = err_from_is_err_and c.from_residual.result c.from_residual.ensures.1 in
    rw (p.1, p.2) (record {
      declares = name-taken _ _ _ _ _ c.in_err-number.ensures.stands;
      refuses = c.in_err-number.ensures.refuses;
    })

pub returns-then-most-number : goal.returns-then-most-number
returns-then-most-number c =
    record { declares = name-full _ _ _ _ c.in_ok-number.ensures.stands c.most.ensures c.if-most-number.true; refuses = tt }

pub returns : goal.returns
returns c = record {
  declares = name-added _ _ _ _ c.in_ok-number.ensures.stands c.most.ensures _ c.if-most-number.false _ _ c.add.ensures c.ok_or.ensures.value;
  refuses = no-room-refuses _ _ c.ok_or.ensures.value;
}
