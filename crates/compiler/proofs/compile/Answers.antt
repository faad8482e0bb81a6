-- `compiler::compile` meets its contract: what the passes come to, with the line of a refusal. Assumes nothing.
use Rattle.compiler.proofs.OutcomeLaws.{written, not_written}
use Rattle.compiler.proofs.compile.Goals as goal

pub returns-in-Ok : goal.returns-in-Ok
returns-in-Ok c = written _ _ c.in-Ok.ensures

pub returns-in-Err : goal.returns-in-Err
returns-in-Err c = not_written _ _ _ c.in-Err.ensures c.refusal.ensures
