-- Demand 3 as a statement about what is compiled and the memory that was lent for its table. Assumes nothing.
use Rattle.std.specs.Prelude.{ℕ, ◌≡◌, Bool, true, false, List, ◌++◌, take}
use Rattle.policy.specs.Statements.{Policy, declarations}
use Rattle.policy.specs.Reading.{policy}
use Rattle.policy.specs.Deciding.{Question, Verdict, granted, denied, fails, refuses, declared_question, Relabelling, declared_relabel}
use Rattle.policy.specs.Answer.{answer, relabel_answer}
use Rattle.policy.specs.Outcome.{Input, policy_of, after}
use Rattle.policy.specs.Questions.{change_on, relabel_on}

-- a refusal, by any number
abbrev pub is_refusal : Verdict → Bool
is_refusal granted = false
is_refusal (denied n) = false
is_refusal (fails n i) = false
is_refusal (refuses n at) = true

-- "Take any accepted policy and any change question in numbers it declares. Whatever the lent memory held before, and whatever stands
-- behind the table later, the written table, unaltered and read without the text, gives the answer that the statements give,
-- never a refusal": n bytes of the memory are the table, p is what the statements of the text say
pub record TableAnswers (x : Input) (lent : List ℕ) (n : ℕ) : Type 0 where
  pub statements : Policy
  pub read : policy_of x ≡ policy statements
  pub answers : (behind : List ℕ) (q : Question) → change_on (take n (after x lent) ++ behind) q ≡ answer statements q
  pub never-refused : (q : Question) → declared_question (declarations statements) q ≡ true → is_refusal (answer statements q).verdict ≡ false
  -- W-205: "Demand 3 covers this question"
  pub relabels : (behind : List ℕ) (q : Relabelling) → relabel_on (take n (after x lent) ++ behind) q ≡ relabel_answer statements q
  pub relabels-never-refused : (q : Relabelling) → declared_relabel (declarations statements) q ≡ true → is_refusal (relabel_answer statements q).verdict ≡ false
