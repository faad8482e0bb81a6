-- `mentions::close` meets its contract: every number below k is gone through. Assumes nothing.
use Prim.Native.Nat.{ℕ}
use native.Mathlib.Numerals.{add-one}
use mathlib.Core.List.{List}
use mathlib.Core.Path.{refl, ap, ◌∙◌}
use Rattle.mentions.specs.Closure.{through_of, closed_of}
use Rattle.mentions.proofs.close.Goals as goal

pub loop-k-init : goal.loop-k-init
unfolding closed_of
loop-k-init c = refl

pub loop-k-preserved : goal.loop-k-preserved
unfolding closed_of
loop-k-preserved c =
    let at-loop = c.loop-k in
    c.close_through.ensures ∙ ap (λ (t : List ℕ). through_of t at-loop.k) at-loop.invariant ∙ rw (add-one at-loop.k)
