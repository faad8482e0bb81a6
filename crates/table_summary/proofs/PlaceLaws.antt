-- The place of a name among names of which no two are the same, as a number: a place is that number exactly where the name at it is the one. Assumes nothing.
use Prim.Native.Nat.{ℕ, zero, suc, ◌+◌, ◌<◌, ◌≤◌}
use native.Mathlib.Omega.{arith}
use mathlib.Core.Path.{◌≡◌, refl, sym, ap, ◌∙◌}
use mathlib.Core.Bool.{Bool, true, false, cond, false≢true}
use mathlib.Core.List.{List, [], ◌∷◌}
use mathlib.Core.Option.{Option, none, some}
use lib.Dec.{eqb}
use lib.ListN.{length, get_or}
use borrow.Author.Tests.{eq-eqb, ne_eqb, eqb-true, eqb-false}
use Rattle.policy.specs.Basics.{Name, same, any, is_in, differ, next, index_of}
use Rattle.policy.proofs.Lists.{neither, same-is}
use Rattle.policy.proofs.Differing.{same-turned}
use Rattle.policy.proofs.IfAny.{IfAny}
use Rattle.policy.proofs.Environments.{index_below}
use Rattle.table_summary.specs.Summary.{place_or}

-- a number, or m where there is none
abbrev pub or_number : ℕ → Option ℕ → ℕ
or_number m o = elim o [ some k ↦ k | none ↦ m ]

-- the place of a name is at most m, where there are no more names
pub place-most : (m : ℕ) (w : Name) (xs : List Name) → length xs ≤ m → place_or m w xs ≤ m
place-most m w xs h = by (index_of w xs) (index_below w xs)
  where
    by : (o : Option ℕ) → IfAny (λ n. n < length xs) o → or_number m o ≤ m
    by none b = omega arith
    by (some k) b = omega (arith, b.has k refl)

-- ---- whether a place is that of a name

abbrev is_at : ℕ → Option ℕ → Bool
is_at r none = false
is_at r (some k) = eqb r k

at_next : (r : ℕ) (o : Option ℕ) → is_at (suc r) (next o) ≡ is_at r o
at_next r none = refl
at_next r (some k) = by (eqb r k) refl
  where
    by : (q : Bool) → eqb r k ≡ q → eqb (suc r) (k + 1) ≡ q
    by true e = eq-eqb (suc r) (k + 1) (omega (arith, eqb-true r k e))
    by false e = ne_eqb (suc r) (k + 1) (λ n. eqb-false r k e (omega arith))

not_first : (o : Option ℕ) → is_at 0 (next o) ≡ false
not_first none = refl
not_first (some k) = ne_eqb 0 (k + 1) (λ n. omega arith)

-- a name that is none of some
other_name : (w : Name) (xs : List Name) (r : ℕ) → is_in w xs ≡ false → r < length xs → same w (get_or xs r []) ≡ false
unfolding is_in any
other_name w [] r h l = absurd (omega arith)
other_name w (x ∷ xs) zero h l = (neither (same w x) (any (same w) xs) h).0
other_name w (x ∷ xs) (suc r) h l = other_name w xs r (neither (same w x) (any (same w) xs) h).1 (omega arith)

first-apart : (x : Name) (xs : List Name) → differ (x ∷ xs) ≡ true → (is_in x xs ≡ false) × (differ xs ≡ true)
unfolding differ
first-apart x xs d = by (is_in x xs) refl d
  where
    by : (q : Bool) → is_in x xs ≡ q → cond q false (differ xs) ≡ true → (is_in x xs ≡ false) × (differ xs ≡ true)
    by true e h = absurd (false≢true h)
    by false e h = (e, h)

index_at : (w : Name) (xs : List Name) (r : ℕ) → differ xs ≡ true → r < length xs → is_at r (index_of w xs) ≡ same w (get_or xs r [])
unfolding index_of
index_at w [] r d l = absurd (omega arith)
index_at w (x ∷ xs) zero d l = by (same w x)
  where
    by : (q : Bool) → is_at 0 (cond q (some 0) (next (index_of w xs))) ≡ q
    by true = refl
    by false = not_first (index_of w xs)
index_at w (x ∷ xs) (suc r) d l = by (same w x) refl (index_at w xs r (first-apart x xs d).1 (omega arith))
  where
    by : (q : Bool) → same w x ≡ q → is_at r (index_of w xs) ≡ same w (get_or xs r [])
        → is_at (suc r) (cond q (some 0) (next (index_of w xs))) ≡ same w (get_or xs r [])
    by true e ih =
        ne_eqb (suc r) 0 (λ n. omega arith)
        ∙ sym (ap (λ (v : Name). same v (get_or xs r [])) (same-is w x e) ∙ other_name x xs r (first-apart x xs d).0 (omega arith))
    by false e ih = at_next r (index_of w xs) ∙ ih

-- r is the number exactly where the name at r is the one
pub place_is : (m : ℕ) (w : Name) (xs : List Name) (r : ℕ) → differ xs ≡ true → length xs ≤ m → r < length xs → eqb r (place_or m w xs) ≡ same (get_or xs r []) w
place_is m w xs r d h l = by (index_of w xs) ∙ index_at w xs r d l ∙ same-turned w (get_or xs r [])
  where
    by : (o : Option ℕ) → eqb r (or_number m o) ≡ is_at r o
    by none = ne_eqb r m (λ e. omega arith)
    by (some k) = refl
