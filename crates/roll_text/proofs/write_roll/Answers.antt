-- `roll_text::write_roll` meets its contract: after an acceptance the memory holds a sound table, and its roll is written. Assumes nothing.
use Rattle.roll_text.proofs.Printed.{table-sound, prints-roll, prints-refusal}
use borrow.Author.Rules.{rules}
use Rattle.roll_text.proofs.write_roll.Goals as goal

pub put_roll-requires : goal.put_roll-requires
put_roll-requires c =
    (table-sound c.compile-arg-1.given.0.1 c.compile-compiled.ensures c.in-Ok.is, search rules, search rules)

pub returns-in-Ok : goal.returns-in-Ok
returns-in-Ok c =
    prints-roll c.compile-arg-1.given.0.1 c.compile-compiled.ensures c.in-Ok.is c.put_roll.ensures

pub returns-in-Err : goal.returns-in-Err
returns-in-Err c =
    prints-refusal c.compile-arg-1.given.0.1 c.compile-compiled.ensures c.in-Err.is c.put_refusal.ensures
