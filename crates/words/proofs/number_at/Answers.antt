-- `words::number_at` meets its contract: it lends the word's bytes. Assumes nothing.
use Prim.Native.Nat.{ℕ, ◌+◌, ◌-◌}
use mathlib.Core.Path.{◌≡◌, ap, ◌∙◌}
use native.Mathlib.Omega.{arith}
use lib.ListN.{take, drop}
use Rattle.words.specs.Numbers.{number_of}
use Rattle.words.proofs.number_at.Goals as goal

pub returns : goal.returns
returns c =
    let a = c.args in
    let e : (a.start + a.len) - a.start ≡ a.len = omega arith in
    c.number_of.ensures ∙ ap (λ (n : ℕ). number_of (take n (drop a.start a.text.now))) e
