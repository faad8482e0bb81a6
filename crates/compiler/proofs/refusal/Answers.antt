-- `compiler::refusal` meets its contract: number, place and line. Assumes nothing.
use mathlib.Core.Path.{ap}
use Rattle.policy.specs.Answers.{fault_number}
use Rattle.policy.specs.Outcome.{refusal_at, refusal_of}
use Rattle.compiler.proofs.refusal.Goals as goal

pub returns : goal.returns
unfolding refusal_of
returns c h = ap (refusal_at (fault_number c.args.found.fault) c.args.found.place) (c.line_of.ensures h)
