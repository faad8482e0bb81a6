-- `parser::parse_cleared` meets its contract: a first run of statements, and where blocks come after it, these. Assumes nothing.
use mathlib.Core.Path.{subst}
use Rattle.std.proofs.lemmas.Result.{err_from_is_err_and}
use Rattle.parser.specs.Runs.{RunBy}
use Rattle.parser.proofs.StatementRuns.{first_run}
use Rattle.parser.proofs.parse_cleared.Goals as goal

pub returns-in-Block : goal.returns-in-Block
returns-in-Block c =
    record {
      reads = λ clean index scope.
          c.parse_blocks.ensures.reads _ clean (first_run c.nothing_read-nothing.ensures clean index scope c.in_ok-run.ensures);
    }

pub returns-in-End : goal.returns-in-End
returns-in-End c = record {
  reads = λ clean index scope.
      subst (RunBy _ _ _ _ _ _) c.in-End.is
      (first_run c.nothing_read-nothing.ensures clean index scope
      c.in_ok-run.ensures);
}

pub returns-in_err-run : goal.returns-in_err-run
returns-in_err-run c =
    let p = err_from_is_err_and c.from_residual.result c.from_residual.ensures.1 in
    record { reads = λ clean index scope. rw (p.1, p.2) (first_run c.nothing_read-nothing.ensures clean index scope c.in_err-run.ensures) }
