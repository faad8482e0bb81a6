-- Demand 3 in one step: what becomes of a text and a change question, said of the statements alone, without table, rows or stack. Assumes nothing.
use Rattle.std.specs.Prelude.{ℕ, ◌≡◌, cond, List, leb, length}
use Rattle.policy.specs.Statements.{Policy}
use Rattle.policy.specs.Reading.{policy, refused}
use Rattle.policy.specs.Deciding.{Question, Answer}
use Rattle.policy.specs.Answer.{answer}
use Rattle.policy.specs.Answers.{refusal_in, change_of}
use Rattle.policy.specs.Image.{image_of}
use Rattle.policy.specs.Encode.{encode, newest}
use Rattle.policy.specs.Outcome as outcomes
use Rattle.policy.specs.Outcome.{Input, policy_of, Refusal, refusal_of}
use Rattle.tegzhumbi.specs.declared.Decision as theDecision

-- a refusal of the text, or an answer
pub data Decided : Type 0 where
  rejected : Refusal → Decided
  answered : Answer → Decided

abbrev pub decision_of : theDecision.Decision → Decided
decision_of (theDecision.Decision.Refused r) = rejected (refusal_in r)
decision_of (theDecision.Decision.Answered c) = answered (change_of c)

-- what the statements of a policy answer, where its table has room: "the answer that the statements give"; 10: "the length needed"
abbrev pub answered_by : Input → Policy → ℕ → Question → Decided
answered_by x p lent q = cond (leb (length (encode newest (image_of p))) lent) (answered (answer p q)) (rejected (refusal_of x 10 (length (encode newest (image_of p)))))

-- of what is compiled: its fault 1 to 9, or what its statements answer
unfoldable pub decided : Input → ℕ → Question → Decided
decided x lent q = elim (policy_of x) [ refused n at ↦ rejected (refusal_of x n at) | policy p ↦ answered_by x p lent q ]

-- the answer, and what the lent memory holds afterwards
pub record Decides (x : Input) (before after : List ℕ) (q : Question) (r : theDecision.Decision) : Type 0 where
  pub answer : decision_of r ≡ decided x (length before) q
  pub memory : after ≡ outcomes.after x before
