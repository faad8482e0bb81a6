-- `compiler::compile_clean` meets its contract: a fault 3 to 7, or what the statements give. Assumes nothing.
use Rattle.std.proofs.lemmas.Result.{err_from_is_err_and}
use Rattle.compiler.proofs.OutcomeLaws.{accepted-read, accepted-gives, refused-read, refused-gives}
use Rattle.compiler.proofs.compile_clean.Goals as goal

pub returns-in_err-progress : goal.returns-in_err-progress
returns-in_err-progress c =
    let p = err_from_is_err_and c.from_residual.result c.from_residual.ensures.1 in
    rw (p.1, p.2) (record { says = λ clean. refused-gives _ _ (refused-read clean c.in_err-progress.ensures) })

pub returns : goal.returns
returns c =
    record {
      says = λ clean.
          let read = accepted-read clean c.in_ok-progress.ensures in
          accepted-gives _ read.0 read.1 (c.compile_statements.ensures.says read.0 _ read.2);
    }
