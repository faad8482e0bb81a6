-- A question in the same contexts is the same question, however the contexts were made. Assumes nothing.
use Prim.Native.Nat.{ℕ}
use mathlib.Core.Path.{◌≡◌}
use mathlib.Core.List.{List}
use Rattle.policy.specs.Meaning.{Context}
use Rattle.policy.specs.Questions.{change_on, relabel_on}

module _ (t : List ℕ) {a a' b b' : Context} (c : ℕ) (e : a ≡ a') (f : b ≡ b') where
  pub same-change : (k : ℕ)
      → change_on t (record { source = a; target = b; class = c; perm = k }) ≡ change_on t (record { source = a'; target = b'; class = c; perm = k })
  same-change k = λ i. change_on t (record { source = e i; target = f i; class = c; perm = k })

  pub same-relabelling : {p p' : Context} → p ≡ p'
      → relabel_on t (record { class = c; old = a; new = b; process = p }) ≡ relabel_on t (record { class = c; old = a'; new = b'; process = p' })
  same-relabelling g = λ i. relabel_on t (record { class = c; old = e i; new = f i; process = g i })
