-- `name_rows::inside` meets its contract: what is after an open parenthesis is the row of the part. Assumes nothing.
use native.Mathlib.Omega.{arith}
use Rattle.lexer.proofs.Seen.{seen}
use Rattle.name_rows.proofs.Rows.{a-part, no-part}
use Rattle.name_rows.proofs.inside.Goals as goal

pub returns-in_default : goal.returns-in_default
returns-in_default c = no-part _ _ _ c.next.ensures c.in_default.not-Open

pub overflow_add-result : goal.overflow_add-result
overflow_add-result c = omega (arith, (seen _ _ _ _ c.next.ensures c.in-Open.is).ahead)

pub returns : goal.returns
returns c = a-part _ _ _ c.next.ensures _ c.in-Open.is
