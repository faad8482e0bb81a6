-- `mentions::is_acyclic` meets its contract: none of the attributes passed is in its own row. Assumes nothing.
use native.Mathlib.Omega.{arith}
use mathlib.Core.Bool.{Bool, true, not, ◌&&◌}
use mathlib.Core.Path.{refl, sym, ap, ◌∙◌}
use borrow.Author.Tests.{lt-ltb}
use Rattle.bitset.specs.Sets.{all_below}
use Rattle.set_code.specs.Evaluation.{sets_in}
use Rattle.mentions.proofs.TestLaws.{below_more, below-not}
use Rattle.mentions.proofs.is_acyclic.Goals as goal

pub loop-a-init : goal.loop-a-init
unfolding all_below
loop-a-init c = refl

pub returns-then-mentions_itself : goal.returns-then-mentions_itself
returns-then-mentions_itself c =
    let a = c.loop-a.a in
    let rows = c.args.rows.now in
    let own = ap (λ (t : Bool). t && sets_in rows a a) (sym (lt-ltb a 64 (omega arith))) in
    below-not (λ x. not (sets_in rows x x)) 64 a (omega arith) (ap not (own ∙ sym c.mentions_itself.ensures ∙ c.if-mentions_itself.true))

pub loop-a-preserved : goal.loop-a-preserved
loop-a-preserved c =
    let a = c.loop-a.a in
    let rows = c.args.rows.now in
    let own = ap (λ (t : Bool). t && sets_in rows a a) (sym (lt-ltb a 64 (omega arith))) in
    c.loop-a.invariant ∙ below_more (λ x. not (sets_in rows x x)) a true
    (ap not (own ∙ sym c.mentions_itself.ensures ∙ c.if-mentions_itself.false))
