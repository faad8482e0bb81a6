-- A set that is filled with the numbers below a bound that pass a test, one number after the other. Assumes nothing.
use Prim.Native.Nat.{ℕ, ◌+◌}
use native.Mathlib.Omega.{arith}
use mathlib.Core.Path.{◌≡◌, refl, sym, ap, ◌∙◌}
use mathlib.Core.Logic.{◌⊎◌, inl, inr}
use mathlib.Core.Bool.{Bool, true, false, ◌&&◌, ◌||◌, or-false, or-true}
use mathlib.Core.List.{List}
use lib.Dec.{eqb, ltb}
use lib.ListN.{length}
use borrow.Author.Tests.{lt-ltb, le-ltb, ltb-true, ltb-false, eqb-true, eqb-false}
use Rattle.bitset.specs.Sets.{set_of, inserted, emptied}
use Rattle.bitset.proofs.SetLaws.{set_of-ext, inserted-set_of}
use Rattle.meaning_laws.proofs.ListLaws.{decided}

below_more : (x a : ℕ) → ltb x (a + 1) ≡ (ltb x a || eqb x a)
below_more x a = by (decided (eqb x a)) (decided (ltb x a))
  where
    by : (eqb x a ≡ true) ⊎ (eqb x a ≡ false) → (ltb x a ≡ true) ⊎ (ltb x a ≡ false) → ltb x (a + 1) ≡ (ltb x a || eqb x a)
    by (inl e) k = rw (e, or-true (ltb x a)) (lt-ltb x (a + 1) (omega (arith, eqb-true x a e)))
    by (inr e) (inl l) = rw l (lt-ltb x (a + 1) (omega (arith, ltb-true x a l)))
    by (inr e) (inr l) = rw (l, e) (le-ltb x (a + 1) (omega (arith, ltb-false x a l, eqb-false x a e)))

module _ (test : ℕ → Bool) where
  -- the numbers below a that pass
  abbrev pub filled : ℕ → List ℕ
  filled a = set_of 64 (λ x. ltb x a && test x)

  pub filled_none : (s : List ℕ) → length s ≡ 64 → emptied s ≡ filled 0
  unfolding emptied
  filled_none s h =
      ap (λ (w : ℕ). set_of w (λ x. false)) h
      ∙ set_of-ext 64 (λ x. false) (λ x. ltb x 0 && test x) (λ x l. sym (ap (λ (t : Bool). t && test x) (le-ltb x 0 (omega arith))))

  pub filled_more : (a : ℕ) → test a ≡ true → inserted (filled a) a ≡ filled (a + 1)
  filled_more a h =
      inserted-set_of 64 (λ x. ltb x a && test x) a
      ∙ set_of-ext 64 (λ x. ltb x a && test x || eqb x a) (λ x. ltb x (a + 1) && test x) (λ x l. rw (below_more x a) (at x (decided (eqb x a))))
    where
      at : (x : ℕ) → (eqb x a ≡ true) ⊎ (eqb x a ≡ false) → (ltb x a && test x || eqb x a) ≡ ((ltb x a || eqb x a) && test x)
      at x (inl e) = rw (e, or-true (ltb x a && test x), or-true (ltb x a)) (sym (ap test (eqb-true x a e) ∙ h))
      at x (inr e) = rw (e, or-false (ltb x a && test x), or-false (ltb x a))

  pub filled-over : (a : ℕ) → test a ≡ false → filled a ≡ filled (a + 1)
  filled-over a h = set_of-ext 64 (λ x. ltb x a && test x) (λ x. ltb x (a + 1) && test x) (λ x l. rw (below_more x a) (at x (decided (eqb x a))))
    where
      at : (x : ℕ) → (eqb x a ≡ true) ⊎ (eqb x a ≡ false) → (ltb x a && test x) ≡ ((ltb x a || eqb x a) && test x)
      at x (inl e) = rw (ap test (eqb-true x a e) ∙ h) (none (ltb x a) (ltb x a || eqb x a))
        where
          none : (s t : Bool) → (s && false) ≡ (t && false)
          none true true = refl
          none true false = refl
          none false true = refl
          none false false = refl
      at x (inr e) = rw (e, or-false (ltb x a))
