-- `declarations::add_class` meets its contract: each answer by what was found out before it. Assumes nothing.
use native.Mathlib.Omega.{arith}
use Rattle.std.proofs.lemmas.Result.{err_from_is_err_and}
use Rattle.declarations.proofs.NewEntryLaws.{enters-told}
use Rattle.declarations.proofs.ClassAnswers.{class-taken, class-full, class-too-many, class-no-room, class-added}
use Rattle.declarations.proofs.Refusals.{no-room-refuses}
use Rattle.declarations.proofs.add_class.Goals as goal

pub returns-in_err-number : goal.returns-in_err-number
returns-in_err-number c =
    let p = err_from_is_err_and c.from_residual.result c.from_residual.ensures.1 in
    rw (p.1, p.2) (record {
      declares = class-taken _ _ _ _ _ c.in_err-number.ensures.stands;
      refuses = c.in_err-number.ensures.refuses;
    })

pub returns-then-number-ge-MAX : goal.returns-then-number-ge-MAX
returns-then-number-ge-MAX c =
    record { declares = class-full _ _ _ _ _ c.in_ok-number.ensures.stands c.if-number-ge-MAX.true; refuses = tt }

pub returns-then-count_names-gt-MAX : goal.returns-then-count_names-gt-MAX
returns-then-count_names-gt-MAX c = record {
  declares = class-too-many _ _ _ _ _ c.in_ok-number.ensures.stands (omega (arith, c.count_names.ensures, c.if-count_names-gt-MAX.true));
  refuses = tt;
}

pub returns-in_err-past : goal.returns-in_err-past
returns-in_err-past c =
    let p = err_from_is_err_and c.from_residual-in_err-past.result c.from_residual-in_err-past.ensures.1 in
    rw (p.1, p.2) (record {
      declares =
          class-no-room _ _ _ _ _ c.in_ok-number.ensures.stands c.if-number-ge-MAX.false (omega (arith, c.count_names.ensures, c.if-count_names-gt-MAX.false)) _ _
          (enters-told c.add.ensures c.in_err-past.ensures.ok_part);
      refuses = no-room-refuses _ _ c.in_err-past.ensures.value;
    })

pub returns : goal.returns
returns c = record {
  declares =
      class-added _ _ _ _ _ c.in_ok-number.ensures.stands c.if-number-ge-MAX.false (omega (arith, c.count_names.ensures, c.if-count_names-gt-MAX.false)) _ _ _
      (enters-told c.add.ensures c.in_ok-past.ensures.ok_part) _ _ c.add_permissions.ensures c.ok_or-2.ensures.value;
  refuses = no-room-refuses _ _ c.ok_or-2.ensures.value;
}
