-- Since parts have no dot, a full name says its parts: the own name and the path of blocks around it. Assumes nothing.
use mathlib.Core.Path.{◌≡◌, refl, sym, ap, ap₂, ◌∙◌}
use mathlib.Core.Bool.{true}
use mathlib.Core.List.{List, [], ◌∷◌, ◌++◌}
use Prim.Native.Nat.{ℕ}
use native.Mathlib.Omega.{arith}
use lib.ListN.{length, take, drop}
use lib.Seq.{drop-append_seam}
use Rattle.policy.specs.Basics.{Name, every}
use Rattle.policy.specs.Words.{dotless}
use Rattle.policy.specs.Names.{full}
use Rattle.scopes.specs.Path.{scope_of, is_one_part}
use Rattle.scopes.specs.Scope.{last_dot}
use Rattle.scopes.proofs.PathLaws.{full-in, cut-full, front-full, first_part, other-parts, some_block}

-- the blocks around have one full name
scopes-same : (p q : List Name) (a b : Name) → dotless a ≡ true → dotless b ≡ true → full p a ≡ full q b → scope_of p ≡ scope_of q
scopes-same p q a b da db e =
    let long : length (scope_of p) ≡ length (scope_of q) = sym (cut-full p a da) ∙ ap last_dot e ∙ cut-full q b db in
    sym (front-full p a) ∙ ap₂ (λ (n : ℕ) (s : Name). take n s) long e ∙ front-full q b

-- what is after one front
behind-same : (s t a b : Name) → s ≡ t → s ++ (46 ∷ a) ≡ t ++ (46 ∷ b) → a ≡ b
behind-same s t a b h e =
    ap (drop 1) (sym (drop-append_seam s (46 ∷ a)) ∙ ap₂ (λ (n : ℕ) (l : Name). drop n l) (ap length h) e ∙ drop-append_seam t (46 ∷ b))

-- an open block has no empty full name
not-empty : (b : Name) (path : List Name) → every is_one_part (b ∷ path) ≡ true → [] ≡ scope_of (b ∷ path) → ⊥
not-empty b path h e = omega (arith, some_block b path h, ap length e)

pub full-unique : (p q : List Name) (a b : Name) → every is_one_part p ≡ true → every is_one_part q ≡ true → dotless a ≡ true → dotless b ≡ true
    → full p a ≡ full q b → (a ≡ b) × (p ≡ q)
unfolding full
full-unique [] [] a b hp hq da db e = (e, refl)
full-unique [] (y ∷ q) a b hp hq da db e = absurd (not-empty y q hq (scopes-same [] (y ∷ q) a b da db e))
full-unique (x ∷ p) [] a b hp hq da db e = absurd (not-empty x p hp (sym (scopes-same (x ∷ p) [] a b da db e)))
full-unique (x ∷ p) (y ∷ q) a b hp hq da db e =
    let around : full p x ≡ full q y = scopes-same (x ∷ p) (y ∷ q) a b da db e in
    let parts = full-unique p q x y (other-parts x p hp) (other-parts y q hq) (first_part x p hp).1 (first_part y q hq).1 around in (
      behind-same (full p x) (full q y) a b around (sym (full-in x p a) ∙ e ∙ full-in y q b),
      ap₂ (λ (z : Name) (r : List Name). z ∷ r) parts.0 parts.1,
    )
