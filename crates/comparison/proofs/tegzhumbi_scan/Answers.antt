-- The numbers of each arm are those of the scan's verdict: the scan is the definition's, and the arm says which it is.
use mathlib.Core.Path.{refl, sym}
use Rattle.comparison.proofs.tegzhumbi_scan.Goals as goal

pub returns-in-Ok : goal.returns-in-Ok
returns-in-Ok c = rw (sym c.scan.ensures, c.in-Ok.is) (refl, refl)

pub returns-in-Err : goal.returns-in-Err
returns-in-Err c = rw (sym c.scan.ensures, c.in-Err.is) c.numbers_of.ensures
