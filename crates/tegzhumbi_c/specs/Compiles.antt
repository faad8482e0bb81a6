-- What compiling promises to other languages, for everything that is compiled and every lent memory. Assumes nothing.
use Rattle.std.specs.Prelude.{ℕ, ◌≡◌, List, length}
use Rattle.policy.specs.Outcome as outcomes
use Rattle.policy.specs.Outcome.{Input, outcome}
use Rattle.demand_laws.specs.ByText.{TableAnswers}
use Rattle.answer_numbers.specs.declared.Compiled.{Compiled}
use Rattle.answer_numbers.specs.Numbers.{compiled_of, compiled_numbers}

-- the answer is that of the rules, by its numbers; "On refusal the lent memory is unchanged. On success bytes past the table are unchanged"; and the
-- table of n bytes that the number 0 tells of "gives the answer that the statements give, never a refusal"
pub record Compiles (x : Input) (before after : List ℕ) (r : Compiled) : Type 0 where
  pub answer : r ≡ compiled_numbers (outcome x (length before))
  pub memory : after ≡ outcomes.after x before
  pub answers : (n : ℕ) → r ≡ compiled_of 0 n 0 → TableAnswers x before n
