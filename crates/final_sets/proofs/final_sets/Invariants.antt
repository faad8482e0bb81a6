-- `final_sets::final_sets` meets its contract: after so many rounds the sets are nested so deep; a round that changes nothing is the last that
-- counts. Assumes nothing.
use mathlib.Core.Path.{◌≡◌}
use Rattle.policy.specs.Answers.{family_of}
use Rattle.policy.specs.Accepted.{Accepted}
use Rattle.policy.specs.Meaning.{count_in}
use Rattle.policy.specs.Statements.{Policy}
use Rattle.statement_code.specs.Code.{code_of}
use Rattle.final_sets.proofs.FinalLaws.{after}
use Rattle.final_sets.proofs.final_sets.Given as goal

abbrev pub invariant-loop-round : goal.invariant-loop-round
invariant-loop-round l =
    (p : Policy) (ok : Accepted p) → l.code ≡ code_of p → l.total ≡ count_in p (family_of l.family) → l.sets ≡ after p ok (family_of l.family) l._round
