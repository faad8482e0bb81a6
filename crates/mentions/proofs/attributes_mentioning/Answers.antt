-- `mentions::attributes_mentioning` meets its contract: the set holds the rows passed that have k. Assumes nothing.
use Prim.Native.Nat.{ℕ}
use native.Mathlib.Omega.{arith}
use mathlib.Core.Bool.{Bool}
use mathlib.Core.List.{List}
use mathlib.Core.Path.{◌≡◌, sym, ap, ◌∙◌}
use Rattle.bitset.specs.Sets.{inserted}
use Rattle.set_code.specs.Evaluation.{sets_in}
use Rattle.mentions.specs.Closure.{column_of}
use Rattle.mentions.proofs.ColumnLaws.{filled, filled_none, filled_more, filled-over}
use Rattle.mentions.proofs.attributes_mentioning.Goals as goal
use Rattle.mentions.proofs.attributes_mentioning.Goals.{then-contains_at, else-contains_at}

pub loop-a-init : goal.loop-a-init
loop-a-init c = c.clear.ensures ∙ filled_none (λ x. sets_in _ x _) _ c.clear-arg-1.given.0.1

pub loop-a-preserved : goal.loop-a-preserved
unfolding sets_in
loop-a-preserved c =
    let args = c.args in
    let a = c.loop-a.a in
    let test : ℕ → Bool = λ x. sets_in args.rows.now x args.k in
    let has = sym c.contains_at.ensures in
    elim c.if-contains_at.branch [
      | then-contains_at w ↦ w.out-is ∙ w.insert.ensures ∙ ap (λ (s : List ℕ). inserted s a) c.loop-a.invariant ∙ filled_more test a (has ∙ w.if-contains_at.true)
      | else-contains_at w ↦ w.out-is ∙ c.loop-a.invariant ∙ filled-over test a (has ∙ w.if-contains_at.false)
    ]

pub returns : goal.returns
unfolding column_of
returns c =
    let args = c.args in
    let all : c.loop-a.a ≡ 64 = omega arith in
    c.loop-a.invariant ∙ ap (filled (λ x. sets_in args.rows.now x args.k)) all
