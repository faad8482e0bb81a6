-- `tegzhumbi::decide` meets its contract: from the promises of compile and change alone. Assumes nothing.
use mathlib.Core.Path.{subst}
use Rattle.compiler.specs.Promise.{Compiles}
use Rattle.tegzhumbi.proofs.OneStep.{refuses, answers}
use Rattle.tegzhumbi.proofs.decide.Goals as goal

pub returns-in-Ok : goal.returns-in-Ok
returns-in-Ok c = answers (subst (Compiles _ _ _) c.in-Ok.is c.compile-compiled.ensures) c.change.ensures

pub returns-in-Err : goal.returns-in-Err
returns-in-Err c = refuses (subst (Compiles _ _ _) c.in-Err.is c.compile-compiled.ensures)
