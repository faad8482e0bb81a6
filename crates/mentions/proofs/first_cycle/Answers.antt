-- `mentions::first_cycle` meets its contract: the answer is still to be found among the declarations ahead, of attributes from a on. Assumes nothing.
use Prim.Native.Nat.{ℕ, ◌+◌}
use native.Mathlib.Omega.{arith}
use mathlib.Core.Path.{sym, ◌∙◌, ap}
use Rattle.policy.specs.Answers.{family_of}
use Rattle.code_reader.proofs.Items.{items}
use Rattle.code_reader.proofs.SetPasses.{start}
use Rattle.code_reader.proofs.Passes.{finish}
use Rattle.mentions.proofs.CycleSearch.{seeks-first, seeks-none, found_here, seeks-on, seeks-over}
use Rattle.mentions.proofs.first_cycle.Goals as goal

pub loop-at-init : goal.loop-at-init
loop-at-init c = (omega arith, λ p f ok t q on. start p _ _ q (seeks-first p f))

pub returns-then-mentions_itself : goal.returns-then-mentions_itself
returns-then-mentions_itself c =
    λ p ok q on.
    let f = family_of c.args.family in
    let tag = ap (λ (n : ℕ). 4096 + n) c.family_number-tag.ensures.0 in
    rw c.unit.ensures
    (found_here p ok f _ _ _ c.loop-at-test.true (c.loop-at.invariant.1 p f ok tag q on) (c.if-code-at.true ∙ tag)
    (sym (on _) ∙ sym c.mentions_itself.ensures ∙ c.if-mentions_itself.true))

pub loop-at-preserved-else-mentions_itself : goal.loop-at-preserved-else-mentions_itself
loop-at-preserved-else-mentions_itself c = (
  omega (arith, c.next_statement-next.ensures.0),
  λ p f ok t q on.
      seeks-on p ok f _ _ _ c.loop-at-test.true (c.loop-at.invariant.1 p f ok t q on) _ c.next_statement-next.ensures.0
      (c.if-code-at.true ∙ t)
      (sym (on _) ∙ sym c.mentions_itself.ensures ∙ c.if-mentions_itself.false),
)

pub loop-at-preserved : goal.loop-at-preserved
loop-at-preserved c = (
  omega (arith, c.next_statement-next.ensures.0),
  λ p f ok t q on.
      seeks-over p ok f _ _ _ c.loop-at-test.true (c.loop-at.invariant.1 p f ok t q on) _
      c.next_statement-next.ensures.0 (λ h. c.if-code-at.false (h ∙ sym t)),
)

pub returns : goal.returns
returns c = λ p ok q on.
    let f = family_of c.args.family in
    seeks-none p f _ (finish (items p) _ _ _ c.loop-at-test.false (c.loop-at.invariant.1 p f ok (ap (λ (n : ℕ). 4096 + n) c.family_number-tag.ensures.0) q on))
