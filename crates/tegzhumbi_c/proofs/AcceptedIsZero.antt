-- A TEXT IS ACCEPTED EXACTLY WHERE THE NUMBER IS 0: no refusal has it. Assumes nothing.
use Prim.Native.Nat.{ℕ, ◌≤◌}
use native.Mathlib.Omega.{arith}
use mathlib.Core.Path.{◌≡◌, refl, sym, ap, subst}
use mathlib.Core.Bool.{Bool, true, false, cond}
use mathlib.Core.Option.{Option, none, some}
use lib.Dec.{leb}
use lib.ListN.{length}
use Rattle.policy.specs.Statements.{Policy}
use Rattle.policy.specs.Reading.{Read, policy, refused, read_policy}
use Rattle.policy.specs.Faults.{cycle, clash}
use Rattle.policy.specs.Image.{Image, image_of}
use Rattle.policy.specs.Encode.{encode, newest}
use Rattle.policy.specs.Outcome.{Input, accept, policy_of, compiles, refuses, compiled, fitted, refusal_of, Outcome, accepted, rejected, outcome_of, outcome}
use Rattle.policy.specs.Answers.{compiling_of}
use Rattle.policy.specs.declared.Fault.{Fault}
use Rattle.policy.specs.declared.Refusal as theRefusal
use Rattle.std.specs.Prelude.{Result, Ok, Err}
use Rattle.reading_laws.proofs.FaultOrder.{fault-order, refusal-number}
use Rattle.answer_numbers.specs.declared.Compiled.{Compiled}
use Rattle.answer_numbers.specs.Numbers.{compiled_of, compiled_numbers}

abbrev NumberedRead : Read → Type 0
NumberedRead (policy p) = Unit {0}
NumberedRead (refused n at) = 1 ≤ n

accept-numbered : (p : Policy) → NumberedRead (accept p)
unfolding accept
accept-numbered p = by (cycle p) (clash p)
  where
    by : (x y : Option ℕ) → NumberedRead (elim x [ some at ↦ refused 8 at | none ↦ elim y [ some at ↦ refused 9 at | none ↦ policy p ] ])
    by (some at) y = omega arith
    by none (some at) = omega arith
    by none none = tt

policy-numbered : (x : Input) → NumberedRead (policy_of x)
unfolding policy_of
policy-numbered x = by (read_policy x.text) refl
  where
    by : (r : Read) → read_policy x.text ≡ r → NumberedRead (elim r [ refused n at ↦ refused n at | policy p ↦ accept p ])
    by (refused n at) e = (refusal-number (fault-order x.text n at e)).0
    by (policy p) e = accept-numbered p

abbrev Numbered : Outcome → Type 0
Numbered (accepted n) = Unit {0}
Numbered (rejected r) = 1 ≤ r.number

fitted-numbered : (x : Input) (lent : ℕ) (i : Image) → Numbered (outcome_of x (fitted lent i))
unfolding refusal_of
fitted-numbered x lent i = by (leb (length (encode newest i)) lent)
  where
    by : (b : Bool) → Numbered (outcome_of x (cond b (compiles i) (refuses 10 (length (encode newest i)))))
    by true = tt
    by false = omega arith

outcome-numbered : (x : Input) (lent : ℕ) → Numbered (outcome x lent)
unfolding outcome compiled refusal_of
outcome-numbered x lent = by (policy_of x) (policy-numbered x)
  where
    by : (r : Read) → NumberedRead r → Numbered (outcome_of x (elim r [ refused n at ↦ refuses n at | policy p ↦ fitted lent (image_of p) ]))
    by (refused n at) s = s
    by (policy p) s = fitted-numbered x lent (image_of p)

numbered-as : (a : Result ℕ (theRefusal.Refusal Fault)) (n : ℕ) → Numbered (compiling_of a) → compiled_numbers (compiling_of a) ≡ compiled_of 0 n 0 → a ≡ Ok n
numbered-as (Ok m) n s h = ap Ok (ap (λ (c : Compiled). c.place) h)
numbered-as (Err r) n s h = absurd (omega (arith, ap (λ (c : Compiled). c.number) h))

-- an answer whose number is 0 is an acceptance
pub accepted-as : (x : Input) (lent : ℕ) (a : Result ℕ (theRefusal.Refusal Fault)) (n : ℕ) → compiling_of a ≡ outcome x lent
    → compiled_numbers (compiling_of a) ≡ compiled_of 0 n 0 → a ≡ Ok n
accepted-as x lent a n e h = numbered-as a n (subst Numbered (sym e) (outcome-numbered x lent)) h
