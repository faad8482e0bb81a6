-- `name_rows::is_among_first` meets its contract. The loop's invariant: the name is among the names asked for exactly where it is among those
-- that are left of them. Assumes nothing.
use native.Mathlib.Omega.{arith}
use mathlib.Core.Path.{sym, ap, ◌∙◌}
use Prim.Native.Nat.{ℕ, ◌+◌, ◌-◌}
use Rattle.policy.specs.Basics.{same}
use Rattle.name_rows.specs.WordRows.{is_among_first}
use Rattle.symbols.proofs.SameLaws.{pointwise-same}
use Rattle.name_rows.proofs.Rows.{is-this, is_later, not-among-none, not-among-first-none}
use Rattle.name_rows.proofs.is_among_first.Goals as goal

pub loop-init : goal.loop-init
loop-init c = ap (λ (k : ℕ). is_among_first c.args.text.now c.args.at k c.args.name.now) (omega arith)

pub returns-in_default : goal.returns-in_default
returns-in_default c = not-among-none _ _ (c.args.count - c.loop.counter) _ c.in_default.ensures ∙ c.loop.invariant

pub returns-then-eq : goal.returns-then-eq
returns-then-eq c =
    let is = sym (c.if-eq.ensures ∙ pointwise-same _ _ ∙ ap (same c.args.name.now) c.part.ensures) in
    is-this c.in-Some.ensures _ (c.args.count - c.loop.counter) (omega (arith, c.loop-test.true)) is ∙ c.loop.invariant

pub loop-preserved : goal.loop-preserved
loop-preserved c =
    let other = sym (c.if-eq.ensures ∙ pointwise-same _ _ ∙ ap (same c.args.name.now) c.part.ensures) in
    ap (λ (k : ℕ). is_among_first c.args.text.now (c.in-Some.word.start + c.in-Some.word.length) k c.args.name.now) (omega arith)
    ∙ is_later c.in-Some.ensures _ (c.args.count - c.loop.counter) (omega (arith, c.loop-test.true)) other ∙ c.loop.invariant

pub returns : goal.returns
returns c = not-among-first-none _ _ (c.args.count - c.loop.counter) _ (omega (arith, c.loop-test.false)) ∙ c.loop.invariant
