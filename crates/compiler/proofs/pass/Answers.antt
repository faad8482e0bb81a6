-- `compiler::pass` meets its contract: 1, 2, or what a clean text gives. Assumes nothing.
use mathlib.Core.Path.{sym}
use Rattle.std.proofs.lemmas.Result.{err_from_is_err_and}
use Rattle.compiler.proofs.OutcomeLaws.{refused-scanned, refused-gives}
use Rattle.compiler.proofs.pass.Goals as goal

pub returns-in_err-scan : goal.returns-in_err-scan
returns-in_err-scan c =
    let p = err_from_is_err_and c.from_residual.result c.from_residual.ensures.1 in
    rw (p.1, p.2) (refused-gives _ _ (refused-scanned _ _ c.in_err-scan.ensures))

pub returns : goal.returns
returns c = c.compile_clean.ensures.says (sym c.in_ok-scan.ensures)
