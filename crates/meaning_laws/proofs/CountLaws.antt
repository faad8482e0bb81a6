-- How many numbers below a bound pass a test: more where one passes more. By induction on the bound. Assumes nothing.
use Prim.Native.Nat.{ℕ, zero, suc, ◌+◌, ◌≤◌, ◌<◌}
use native.Mathlib.Omega.{arith}
use mathlib.Core.Path.{◌≡◌, refl, subst}
use mathlib.Core.Logic.{◌⊎◌, inl, inr}
use mathlib.Core.Bool.{Bool, true, false, false≢true}
use mathlib.Core.List.{List, ◌∷◌}
use lib.Dec.{eqb}
use borrow.Author.Tests.{eqb-true, eqb-false, eq-eqb}
use Rattle.bitset.specs.Sets.{one, count_below}
use Rattle.policy.specs.Basics.{any, is_among}
use Rattle.meaning_laws.proofs.ListLaws.{decided, or_left, or_right}

one-le : (t u : Bool) → (t ≡ true → u ≡ true) → one t ≤ one u
one-le true true h = omega arith
one-le true false h = absurd (false≢true (h refl))
one-le false true h = omega arith
one-le false false h = omega arith

pub count-le : (m : ℕ) (f g : ℕ → Bool) → ((y : ℕ) → y < m → f y ≡ true → g y ≡ true) → count_below m f ≤ count_below m g
unfolding count_below
count-le zero f g h = omega arith
count-le (suc m) f g h = omega (arith, count-le m f g (λ y l. h y (omega (arith, l))), one-le (f m) (g m) (h m (omega arith)))

pub lower : (b m : ℕ) → b < suc m → (b ≡ m → ⊥) → b < m
lower b m h ne = omega (arith, ne)

-- x passes g and not f
pub count-more : (m : ℕ) (f g : ℕ → Bool) (x : ℕ) → ((y : ℕ) → y < m → f y ≡ true → g y ≡ true) → x < m → f x ≡ false → g x ≡ true
    → suc (count_below m f) ≤ count_below m g
unfolding count_below
count-more zero f g x h l a b = absurd (omega arith)
count-more (suc m) f g x h l a b = by (λ k. count-more m f g x rest k a b) (decided (eqb x m))
  where
    rest : (y : ℕ) → y < m → f y ≡ true → g y ≡ true
    rest y k = h y (omega (arith, k))

    by : (x < m → suc (count_below m f) ≤ count_below m g) → (eqb x m ≡ true) ⊎ (eqb x m ≡ false) → suc (count_below m f + one (f m)) ≤ count_below m g + one (g m)
    by ih (inl e) =
        rw (subst (λ (y : ℕ). f y ≡ false) (eqb-true x m e) a, subst (λ (y : ℕ). g y ≡ true) (eqb-true x m e) b)
        (omega (arith, count-le m f g rest))
    by ih (inr e) = omega (arith, ih (lower x m l (eqb-false x m e)), one-le (f m) (g m) (h m (omega arith)))

-- a test fails below m, or passes at some number below m
pub find-below : (m : ℕ) (t : ℕ → Bool) → ((b : ℕ) → b < m → t b ≡ false) ⊎ ((b : ℕ) × (b < m) × (t b ≡ true))
find-below zero t = inl (λ b l. absurd (omega (arith, l)))
find-below (suc m) t = by (find-below m t) (decided (t m))
  where
    by : ((b : ℕ) → b < m → t b ≡ false) ⊎ ((b : ℕ) × (b < m) × (t b ≡ true)) → (t m ≡ true) ⊎ (t m ≡ false)
        → ((b : ℕ) → b < suc m → t b ≡ false) ⊎ ((b : ℕ) × (b < suc m) × (t b ≡ true))
    by (inr r) e = inr (r.0, omega (arith, r.1), r.2)
    by (inl h) (inl e) = inr (m, omega arith, e)
    by (inl h) (inr e) = inl (λ b l. at-m b l (decided (eqb b m)))
      where
        at-m : (b : ℕ) → b < suc m → (eqb b m ≡ true) ⊎ (eqb b m ≡ false) → t b ≡ false
        at-m b l (inl q) = rw (eqb-true b m q) e
        at-m b l (inr q) = h b (lower b m l (eqb-false b m q))

-- how many numbers below m are among these; one more joins them
abbrev pub among_below : ℕ → List ℕ → ℕ
among_below m xs = count_below m (λ y. is_among y xs)

pub one-joins : (m : ℕ) (xs : List ℕ) (x : ℕ) → x < m → is_among x xs ≡ false → suc (among_below m xs) ≤ among_below m (x ∷ xs)
unfolding is_among any
one-joins m xs x l h = count-more m (λ y. is_among y xs) (λ y. is_among y (x ∷ xs)) x
    (λ y _ e. or_right (eqb y x) (is_among y xs) e) l h (or_left (eqb x x) (is_among x xs) (eq-eqb x x refl))
