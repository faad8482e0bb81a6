-- Document 01, "Refusal numbers", and document 02, W-202: what compiling answers, and what the lent memory holds afterwards. Assumes nothing.
use Rattle.std.specs.Prelude.{ℕ, ◌+◌, cond, List, [], ◌∷◌, ◌++◌, eqb, leb, length, take, drop}
use Rattle.std.proofs.Math.Option.{none, some}
use Rattle.policy.specs.Statements.{Policy}
use Rattle.policy.specs.Reading.{Read, policy, refused, read_policy}
use Rattle.policy.specs.Faults.{cycle, clash}
use Rattle.policy.specs.Image.{Image, image_of}
use Rattle.policy.specs.Encode.{encode, newest}

-- "then 8; 9"
unfoldable pub accept : Policy → Read
accept p = elim (cycle p) [ some at ↦ refused 8 at | none ↦ elim (clash p) [ some at ↦ refused 9 at | none ↦ policy p ] ]

-- what is compiled
pub record Input : Type 0 where
  pub text : List ℕ

abbrev pub of_text : List ℕ → Input
of_text t = record { text = t }

-- the policy of a text that passes 1 to 9
unfoldable pub policy_of : Input → Read
policy_of x = elim (read_policy x.text) [ refused n at ↦ refused n at | policy p ↦ accept p ]

-- what compiling gives: the content of the table, which is in the newest edition, or a refusal's number and place
pub data Compiled : Type 0 where
  compiles : Image → Compiled
  refuses : ℕ → ℕ → Compiled

-- 10: "lent table memory shorter than the table", at "the length needed"
abbrev pub fitted : ℕ → Image → Compiled
fitted lent i = cond (leb (length (encode newest i)) lent) (compiles i) (refuses 10 (length (encode newest i)))

unfoldable pub compiled : Input → ℕ → Compiled
compiled x lent = elim (policy_of x) [ refused n at ↦ refuses n at | policy p ↦ fitted lent (image_of p) ]

-- a refusal
pub record Refusal : Type 0 where
  pub number : ℕ
  pub place : ℕ
  pub line : ℕ

abbrev pub refusal_at : ℕ → ℕ → ℕ → Refusal
refusal_at n at l = record { number = n; place = at; line = l }

-- how many bytes are LF
unfoldable pub line_feeds : List ℕ → ℕ
line_feeds [] = 0
line_feeds (b ∷ t) = cond (eqb b 10) (1 + line_feeds t) (line_feeds t)

-- W-202: "the line: 1 plus the number of LF bytes before the place"
abbrev pub line_at : List ℕ → ℕ → ℕ
line_at t at = 1 + line_feeds (take at t)

-- "Refusals placed in a text, later ones too, also carry the line .. All others carry line 0": the place of 10 is a length
unfoldable pub refusal_of : Input → ℕ → ℕ → Refusal
refusal_of x n at = refusal_at n at (cond (eqb n 10) 0 (line_at x.text at))

-- the answer: accepted, with the table's length; or refused
pub data Outcome : Type 0 where
  accepted : ℕ → Outcome
  rejected : Refusal → Outcome

abbrev pub outcome_of : Input → Compiled → Outcome
outcome_of x (compiles i) = accepted (length (encode newest i))
outcome_of x (refuses n at) = rejected (refusal_of x n at)

-- "On refusal the lent memory is unchanged. On success bytes past the table are unchanged"
abbrev pub after_of : Compiled → List ℕ → List ℕ
after_of (compiles i) lent = encode newest i ++ drop (length (encode newest i)) lent
after_of (refuses n at) lent = lent

-- the answer, with lent memory of a length; the lent memory afterwards
unfoldable pub outcome : Input → ℕ → Outcome
outcome x lent = outcome_of x (compiled x lent)

unfoldable pub after : Input → List ℕ → List ℕ
after x lent = after_of (compiled x (length lent)) lent
