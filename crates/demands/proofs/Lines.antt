-- W-202 from the promise of compile. Assumes nothing.
use Prim.Native.Nat.{ℕ}
use native.Mathlib.Omega.{arith}
use mathlib.Core.Path.{◌≡◌, refl, ap, ◌∙◌}
use mathlib.Core.Bool.{cond}
use lib.Dec.{eqb}
use lib.ListN.{length}
use borrow.Author.Tests.{eq-eqb, ne_eqb}
use Rattle.policy.specs.Answers.{fault_number, refusal_in}
use Rattle.policy.specs.Outcome as outcomes
use Rattle.policy.specs.Outcome.{Input, Compiled, compiles, refuses, compiled, line_at, Refusal, refusal_of, outcome_of, outcome, after}
use Rattle.demands.specs.Lines.{answer_before, without_line, Lines}

module _ (x : Input) where
  same_by : (c : Compiled) → without_line (outcome_of x c) ≡ answer_before c
  unfolding refusal_of
  same_by (compiles i) = refl
  same_by (refuses n at) = refl

  -- a refusal has the line that its number and place have
  ruled : (r : Refusal) (c : Compiled) → outcomes.rejected r ≡ outcome_of x c → r.line ≡ cond (eqb r.number 10) 0 (line_at x.text r.place)
  unfolding refusal_of
  ruled r (compiles i) e = let z : ◌≡◌ {A = ℕ} 0 1 = cc in absurd (omega arith)
  ruled r (refuses n at) e = let s : r ≡ refusal_of x n at = cc in rw s refl

pub lines : Lines
unfolding outcome after
lines = record {
  same = λ x before now r c. (ap without_line c.answer ∙ same_by x (compiled x (length before)), c.memory);
  placed = λ x before now r c other. ruled x (refusal_in r) (compiled x (length before)) c.answer ∙ rw (ne_eqb (fault_number r.fault) 10 other) refl;
  others = λ x before now r c e. ruled x (refusal_in r) (compiled x (length before)) c.answer ∙ rw (eq-eqb (fault_number r.fault) 10 e) refl;
}
