-- Compiling and asking in one step comes to what the statements answer: from the promises of compile and change. Assumes nothing.
use Prim.Native.Nat.{ℕ}
use mathlib.Core.Path.{◌≡◌, refl, sym, ap, ◌∙◌}
use mathlib.Core.Bool.{Bool, true, false, cond, false≢true}
use mathlib.Core.List.{List, ◌++◌}
use lib.Dec.{leb}
use lib.ListN.{length, take, drop, take-append-drop}
use Rattle.std.specs.Prelude.{Result}
use Rattle.policy.specs.declared.Change.{Change}
use Rattle.policy.specs.declared.Denial.{Denial}
use Rattle.policy.specs.declared.Fault.{Fault}
use Rattle.policy.specs.declared.Refusal as theRefusal
use Rattle.std.specs.Prelude.{Ok, Err}
use Rattle.policy.specs.Statements.{Policy}
use Rattle.policy.specs.Reading.{Read, policy, refused}
use Rattle.policy.specs.Deciding.{Question}
use Rattle.policy.specs.Answer.{answer}
use Rattle.policy.specs.Answers.{refusal_in, change_of}
use Rattle.policy.specs.Image.{image_of}
use Rattle.policy.specs.Encode.{encode, newest}
use Rattle.policy.specs.Questions.{change_on}
use Rattle.policy.specs.Outcome as outcomes
use Rattle.policy.specs.Outcome.{Input, policy_of, compiled, fitted, Refusal, refusal_of, Outcome, accepted, rejected, outcome_of, outcome}
use Rattle.policy.proofs.Outcomes.{is_accepted}
use Rattle.compiler.specs.Promise.{Compiles}
use Rattle.tegzhumbi.specs.declared.Decision as theDecision
use Rattle.tegzhumbi.specs.DecisionByText as deciding
use Rattle.tegzhumbi.specs.DecisionByText.{Decided, answered, answered_by, decided, Decides}

-- an outcome that refuses, as a decision
abbrev refused_as : Outcome → Decided → Decided
refused_as (accepted n) d = d
refused_as (rejected r) d = deciding.rejected r

module _ (x : Input) (lent : ℕ) (q : Question) where
  -- outcome and decision, by what reading gives
  outcome_by : Read → Outcome
  outcome_by r = outcome_of x (elim r [ refused n at ↦ outcomes.refuses n at | policy p ↦ fitted lent (image_of p) ])

  outcome-by : (r : Read) → policy_of x ≡ r → outcome x lent ≡ outcome_by r
  unfolding outcome compiled outcome_by
  outcome-by r e = ap outcome_by e

  decided_by : Read → Decided
  decided_by r = elim r [ refused n at ↦ deciding.rejected (refusal_of x n at) | policy p ↦ answered_by x p lent q ]

  decided-by : (r : Read) → policy_of x ≡ r → decided x lent q ≡ decided_by r
  unfolding decided decided_by
  decided-by r e = ap decided_by e

  -- a policy that has no room is refused by the same refusal
  no_room : (p : Policy) (r' : Refusal) (b : Bool) → outcome_of x (cond b (outcomes.compiles (image_of p)) (outcomes.refuses 10 (length (encode newest (image_of p))))) ≡ rejected r'
      → cond b (answered (answer p q)) (deciding.rejected (refusal_of x 10 (length (encode newest (image_of p))))) ≡ deciding.rejected r'
  no_room p r' true e = absurd (false≢true (sym (ap is_accepted e)))
  no_room p r' false e = ap (λ (o : Outcome). refused_as o (deciding.rejected r')) e

  pub decided-refused : (r' : Refusal) → outcome x lent ≡ rejected r' → decided x lent q ≡ deciding.rejected r'
  unfolding outcome_by decided_by
  decided-refused r' e = by (policy_of x) refl
    where
      by : (r : Read) → policy_of x ≡ r → decided x lent q ≡ deciding.rejected r'
      by (refused m b) h = decided-by (refused m b) h ∙ ap (λ (o : Outcome). refused_as o (deciding.rejected r')) (sym (outcome-by (refused m b) h) ∙ e)
      by (policy p) h = decided-by (policy p) h ∙ no_room p r' (leb (length (encode newest (image_of p))) lent) (sym (outcome-by (policy p) h) ∙ e)

  -- a policy that has room is answered
  has_room : (p : Policy) (n : ℕ) (b : Bool) → outcome_of x (cond b (outcomes.compiles (image_of p)) (outcomes.refuses 10 (length (encode newest (image_of p))))) ≡ accepted n
      → cond b (answered (answer p q)) (deciding.rejected (refusal_of x 10 (length (encode newest (image_of p))))) ≡ answered (answer p q)
  has_room p n true e = refl
  has_room p n false e = absurd (false≢true (ap is_accepted e))

  pub decided-answered : (p : Policy) (n : ℕ) → policy_of x ≡ policy p → outcome x lent ≡ accepted n → decided x lent q ≡ answered (answer p q)
  unfolding outcome_by decided_by
  decided-answered p n h e = decided-by (policy p) h ∙ has_room p n (leb (length (encode newest (image_of p))) lent) (sym (outcome-by (policy p) h) ∙ e)

module _ {x : Input} {before now : List ℕ} {q : Question} where
  pub refuses : {r : theRefusal.Refusal Fault} → Compiles x before now (Err r) → Decides x before now q (theDecision.Decision.Refused r)
  refuses {r} c = record { answer = sym (decided-refused x (length before) q (refusal_in r) (sym c.answer)); memory = c.memory }

  pub answers : {n : ℕ} {a : Result (Change Denial) Fault} → Compiles x before now (Ok n) → change_of a ≡ change_on now q → Decides x before now q (theDecision.Decision.Answered a)
  answers {n} {a} c e =
      let table = c.answers n refl in
      let whole : take n (outcomes.after x before) ++ drop n (outcomes.after x before) ≡ now = take-append-drop n (outcomes.after x before) ∙ sym c.memory in
      let said : change_of a ≡ answer table.statements q =
      e ∙ sym (ap (λ (t : List ℕ). change_on t q) whole) ∙ table.answers (drop n (outcomes.after x before)) q in
      record {
        answer = ap answered said ∙ sym (decided-answered x (length before) q table.statements n table.read (sym c.answer));
        memory = c.memory;
      }
