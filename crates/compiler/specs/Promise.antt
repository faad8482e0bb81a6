-- What compiling promises, for everything that is compiled and every lent memory. Assumes nothing.
use Rattle.std.specs.Prelude.{◌≡◌, List, ℕ, length, Result, Ok}
use Rattle.policy.specs.declared.Fault.{Fault}
use Rattle.policy.specs.declared.Refusal as theRefusal
use Rattle.policy.specs.Answers.{compiling_of}
use Rattle.policy.specs.Outcome as outcomes
use Rattle.policy.specs.Outcome.{Input, outcome}
use Rattle.demand_laws.specs.ByText.{TableAnswers}

-- the answer is that of the rules, refusals with their numbers, places and lines among them; the lent memory holds the table and after it what was there,
-- and after a refusal what was there; and an accepted table "gives the answer that the statements give, never a refusal"
pub record Compiles (x : Input) (before after : List ℕ) (r : Result ℕ (theRefusal.Refusal Fault)) : Type 0 where
  pub answer : compiling_of r ≡ outcome x (length before)
  pub memory : after ≡ outcomes.after x before
  pub answers : (n : ℕ) → r ≡ Ok n → TableAnswers x before n
