-- `parser::parse_blocks` meets its contract: what comes after the first run of statements, read so far, gives what the whole text gives. The measure is what is
-- left of the text. Assumes nothing.
use mathlib.Core.Path.{refl, subst}
use Rattle.std.proofs.lemmas.Result.{err_from_is_err_and}
use Rattle.parser.specs.Runs.{RunBy}
use Rattle.parser.proofs.StatementRuns.{block-entered, block_refused, block_closed, falls-inside}
use Rattle.parser.proofs.parse_blocks.Goals as goal

pub loop-run-init : goal.loop-run-init
loop-run-init c = λ lent clean begun. rw c.none_open-blocks.ensures begun

-- a block
pub loop-run-smaller-in-Ok : goal.loop-run-smaller-in-Ok
loop-run-smaller-in-Ok c = falls-inside c.in_ok-run-in-Ok.ensures c.in-Block.is c.in-Ok.ensures.ahead.0

pub loop-run-preserved-in-Ok : goal.loop-run-preserved-in-Ok
loop-run-preserved-in-Ok c =
    λ lent clean begun.
    c.in_ok-run-in-Ok.ensures.says lent _ _ _ clean
    (block-entered clean (subst (RunBy _ lent _ _ _ _) c.in-Block.is (c.loop-run.invariant lent clean begun)) c.in-Ok.ensures refl)

pub returns-in_err-run-in-Ok : goal.returns-in_err-run-in-Ok
returns-in_err-run-in-Ok c =
    let p = err_from_is_err_and c.from_residual.result c.from_residual.ensures.1 in
    record {
      reads = λ lent clean begun.
          rw (p.1, p.2) (
          c.in_err-run-in-Ok.ensures.says lent _ _ _ clean
          (block-entered clean (subst (RunBy _ lent _ _ _ _) c.in-Block.is (c.loop-run.invariant lent clean begun)) c.in-Ok.ensures refl)
          );
    }

pub returns-in-Err : goal.returns-in-Err
returns-in-Err c = record {
  reads = λ lent clean begun.
      block_refused clean (subst (RunBy _ lent _ _ _ _) c.in-Block.is (c.loop-run.invariant lent clean begun)) c.in-Err.ensures refl;
}

-- the close of one
pub loop-run-preserved : goal.loop-run-preserved
loop-run-preserved c =
    λ lent clean begun.
    c.in_ok-run-in-Close.ensures.says lent _ _ _ clean
    (block_closed (subst (RunBy _ lent _ _ _ _) c.in-Close.is (c.loop-run.invariant lent clean begun)) c.close_block-blocks.ensures)

pub returns-in_err-run-in-Close : goal.returns-in_err-run-in-Close
returns-in_err-run-in-Close c =
    let p = err_from_is_err_and c.from_residual-in_err-run-in-Close.result c.from_residual-in_err-run-in-Close.ensures.1 in
    record {
      reads = λ lent clean begun.
          rw (p.1, p.2) (
          c.in_err-run-in-Close.ensures.says lent _ _ _ clean
          (block_closed (subst (RunBy _ lent _ _ _ _) c.in-Close.is (c.loop-run.invariant lent clean begun)) c.close_block-blocks.ensures)
          );
    }

-- the end of the text
pub returns-in-End : goal.returns-in-End
returns-in-End c = record { reads = λ lent clean begun. subst (RunBy _ lent _ _ _ _) c.in-End.is (c.loop-run.invariant lent clean begun) }
