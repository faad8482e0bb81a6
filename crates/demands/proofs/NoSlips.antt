-- A compiler that keeps the promise makes none of the slips. The statements' answers are computed; the promise carries them to the table. Assumes
-- nothing.
use Prim.Native.Nat.{ℕ}
use mathlib.Core.Path.{◌≡◌, refl, sym, ap, ◌∙◌}
use mathlib.Core.List.{List}
use lib.ListN.{length}
use Rattle.policy.specs.Reading.{Read, policy, refused}
use Rattle.policy.specs.Deciding.{Question, Answer, refuses, unconsulted}
use Rattle.policy.specs.Answer.{answer}
use Rattle.policy.specs.Outcome.{of_text, policy_of, refusal_at, rejected, outcome}
use Rattle.policy.specs.Computing.{computing}
use Rattle.demands.specs.Slips.{Answers, NoSlip, six_deep}
use Rattle.demands.proofs.Demands.{demand-3}

-- what the statements that were read answer
abbrev answer_by : Read → Question → Answer
answer_by (policy p) q = answer p q
answer_by (refused n at) q = unconsulted (refuses n at)

-- the table answers what the statements of the text do
by-text : (text : List ℕ) (q : Question) (a : Answer) → answer_by (policy_of (of_text text)) q ≡ a → Answers text q a
by-text text q a e before now behind n c =
    let d = demand-3 c in
    d.answers behind q ∙ sym (ap (λ (r : Read). answer_by r q) d.read) ∙ e

-- a text that is refused before 10 is refused with any memory
refused-so : (lent : ℕ) → outcome (of_text six_deep) lent ≡ rejected (refusal_at 7 13 1)
unfolding computing
refused-so lent = refl

pub no-slip : NoSlip
unfolding computing
no-slip = record {
  late-member = by-text _ _ _ refl;
  late-role = by-text _ _ _ refl;
  role-64 = by-text _ _ _ refl;
  role-64-itself = by-text _ _ _ refl;
  six-deep = λ before now r c. c.answer ∙ refused-so (length before);
  same-role = by-text _ _ _ refl;
  other-class = by-text _ _ _ refl;
  asked-role = by-text _ _ _ refl;
}
