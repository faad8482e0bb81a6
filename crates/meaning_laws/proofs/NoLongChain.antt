-- Where no attribute is on a cycle, no chain of 64 mentions starts anywhere: its attributes would all differ, and there are at most 64.
-- By induction on what is left of the chain. Assumes nothing.
use Prim.Native.Nat.{ℕ, zero, suc, ◌+◌, ◌<◌}
use native.Mathlib.Omega.{arith}
use mathlib.Core.Path.{◌≡◌, refl}
use mathlib.Core.Logic.{◌⊎◌, inl, inr}
use mathlib.Core.Bool.{true, false, false≢true}
use mathlib.Core.List.{List, [], ◌∷◌}
use lib.Dec.{eqb, ltb}
use borrow.Author.Tests.{eqb-true, ltb-true, ltb-false}
use Rattle.policy.specs.Basics.{any, is_among}
use Rattle.policy.specs.Statements.{Family, Policy, attribute_of, declarations}
use Rattle.policy.specs.Faults.{mentions, attributes_in}
use Rattle.policy.specs.Accepted.{Accepted}
use Rattle.meaning_laws.specs.Mentions.{MentionsDirectly, Mentions, directly, through}
use Rattle.meaning_laws.proofs.ListLaws.{decided, from_either, any_none}
use Rattle.meaning_laws.proofs.CountLaws.{among_below, one-joins}
use Rattle.meaning_laws.proofs.DirectMention.{mentions-exactly, direct-declared}
use Rattle.policy.proofs.Counts.{few-of}
use Rattle.bitset.proofs.CountLaws.{count_below-le}
use Rattle.meaning_laws.proofs.FinalSets.{chain}

module _ (p : Policy) (f : Family) (ok : Accepted p) (acyclic : (a : ℕ) → ¬ Mentions p f a a) where
  -- each of them leads to a
  abbrev Trail : List ℕ → ℕ → Type 0
  Trail v a = (x : ℕ) → is_among x v ≡ true → Mentions p f x a

  -- the trail and a lead to what a mentions
  longer : (v : List ℕ) (a x : ℕ) → Trail v a → Mentions p f a x → Trail (a ∷ v) x
  unfolding is_among any
  longer v a x trail m y h = from_either (eqb y a) (is_among y v) (λ e. rw (eqb-true y a e) m) (λ e. through (trail y e) m) h

  -- so many more mentions would need one attribute more than there are
  no-chain : (k : ℕ) (v : List ℕ) (a : ℕ) → Trail v a → attributes_in p f < k + among_below (attributes_in p f) (a ∷ v) → chain k p f a ≡ false
  unfolding chain
  no-chain zero v a trail h = absurd (omega (arith, h, count_below-le (attributes_in p f) (λ y. is_among y (a ∷ v))))
  no-chain (suc k) v a trail h = any_none (chain k p f) (mentions p f a) (λ x e. go x ((mentions-exactly p f a x).1 e) (no-chain k (a ∷ v) x))
    where
      go : (x : ℕ) → MentionsDirectly p f a x
          → (Trail (a ∷ v) x → attributes_in p f < k + among_below (attributes_in p f) (x ∷ a ∷ v) → chain k p f x ≡ false) → chain k p f x ≡ false
      go x m ih = by (decided (is_among x (a ∷ v)))
        where
          by : (is_among x (a ∷ v) ≡ true) ⊎ (is_among x (a ∷ v) ≡ false) → chain k p f x ≡ false
          by (inl e) = absurd (acyclic x (longer v a x trail (directly m) x e))
          by (inr e) = ih (longer v a x trail (directly m)) (omega (arith, h, one-joins (attributes_in p f) (a ∷ v) x (direct-declared p f ok a x m).1 e))

  -- NO LONG CHAIN starts at an attribute; what is not declared mentions nothing
  pub no-long-chain : (a : ℕ) → chain 64 p f a ≡ false
  unfolding chain is_among any attributes_in
  no-long-chain a = by (decided (ltb a (attributes_in p f)))
    where
      alone : Trail [] a
      alone x e = absurd (nothing x e)
        where
          nothing : (x : ℕ) → is_among x [] ≡ true → ⊥
          nothing x e = false≢true e

      one_more : a < attributes_in p f → attributes_in p f < 64 + among_below (attributes_in p f) (a ∷ [])
      one_more l = omega (arith, few-of (attribute_of f) (declarations p) ok.names, one-joins (attributes_in p f) [] a l refl)

      by : (ltb a (attributes_in p f) ≡ true) ⊎ (ltb a (attributes_in p f) ≡ false) → chain 64 p f a ≡ false
      by (inl e) = no-chain 64 [] a alone (one_more (ltb-true a (attributes_in p f) e))
      by (inr e) = any_none (chain 63 p f) (mentions p f a)
          (λ x h. absurd (omega (arith, ltb-false a (attributes_in p f) e, (direct-declared p f ok a x ((mentions-exactly p f a x).1 h)).0)))
