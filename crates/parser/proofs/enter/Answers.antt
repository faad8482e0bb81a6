-- `parser::enter` meets its contract. Assumes nothing.
use mathlib.Core.Path.{refl}
use native.Mathlib.Omega.{arith}
use Rattle.std.proofs.lemmas.Result.{err_from_is_err_and}
use Rattle.parser.proofs.BlockHeaders.{no_header, inside-text, entered}
use Rattle.parser.proofs.enter.Goals as goal

pub returns-in_default : goal.returns-in_default
returns-in_default c = no_header c.block_form.ensures c.in_default.is

pub returns-in_err-blocks : goal.returns-in_err-blocks
returns-in_err-blocks c =
    let p = err_from_is_err_and c.from_residual.result c.from_residual.ensures.1 in
    rw (p.1, p.2) (entered c.block_form.ensures c.in-Some.is c.in_err-blocks.ensures _ refl)

pub overflow_add-result : goal.overflow_add-result
overflow_add-result c = omega (arith, inside-text c.block_form.ensures c.in-Some.is)

pub returns : goal.returns
returns c = entered c.block_form.ensures c.in-Some.is c.in_ok-blocks.ensures _ refl
