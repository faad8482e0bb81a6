-- Where no chain of k mentions starts at an attribute, k rounds of nesting give it its set: one round more changes nothing, and whatever
-- satisfies the equation of the sets is that set. By induction on k; S by its form. Assumes nothing.
use Prim.Native.Nat.{ℕ, zero, suc}
use mathlib.Core.Path.{◌≡◌, refl, ap, ap₂, ◌∙◌}
use mathlib.Core.Bool.{Bool, true, false, not, ◌&&◌, ◌||◌, true≢false}
use mathlib.Core.List.{List, [], ◌∷◌, ◌++◌}
use lib.Dec.{ltb}
use Rattle.bitset.specs.Relations.{joined}
use Rattle.policy.specs.Basics.{any, each, All}
use Rattle.policy.specs.Statements.{Family, Policy, Reference, thing, attribute, SetExpr, name_s, all_s, not_s, and_s, or_s, xor_s, union_s, empty_s, sets_for}
use Rattle.policy.specs.Meaning.{Set, stands_in, one_of, of_s, count_in, union_of, nested}
use Rattle.policy.specs.Faults.{mentions_r, mentions_s, mentions}
use Rattle.policy.proofs.Lists.{neither, all_left, all_right}

-- two ways to fill the attributes agree on what S mentions, so on S
module _ (c n : ℕ) (s t : ℕ → Set) where
  abbrev Agree : ℕ → Type 0
  Agree b = s b n ≡ t b n

  same-R : (r : Reference) → All Agree (mentions_r r) → stands_in s r n ≡ stands_in t r n
  same-R (thing m) h = refl
  same-R (attribute a) h = h.0

  -- an operator on two S that agree
  same-two : (op : Bool → Bool → Bool) (xs ys : List ℕ) (a b a' b' : Bool) → (All Agree xs → a ≡ a') → (All Agree ys → b ≡ b')
      → All Agree (xs ++ ys) → op a b ≡ op a' b'
  same-two op xs ys a b a' b' f g h = ap₂ op (f (all_left Agree xs ys h)) (g (all_right Agree xs ys h))

  same-S : (x : SetExpr Reference) → All Agree (mentions_s x) → of_s c s x n ≡ of_s c t x n
  unfolding of_s mentions_s
  same-S (name_s r) h = same-R r h
  same-S all_s h = refl
  same-S (not_s x) h = ap (λ b. ltb n c && not b) (same-S x h)
  same-S (and_s x y) h = same-two ◌&&◌ (mentions_s x) (mentions_s y) _ _ _ _ (same-S x) (same-S y) h
  same-S (or_s x y) h = same-two ◌||◌ (mentions_s x) (mentions_s y) _ _ _ _ (same-S x) (same-S y) h
  same-S (xor_s x y) h = same-two one_of (mentions_s x) (mentions_s y) _ _ _ _ (same-S x) (same-S y) h
  same-S (union_s x y) h = same-two ◌||◌ (mentions_s x) (mentions_s y) _ _ _ _ (same-S x) (same-S y) h
  same-S empty_s h = refl

  same-any : (xs : List (SetExpr Reference)) → All Agree (joined (each mentions_s xs)) → any (λ x. of_s c s x n) xs ≡ any (λ x. of_s c t x n) xs
  unfolding any joined each
  same-any [] h = refl
  same-any (x ∷ xs) h = same-two ◌||◌ (mentions_s x) (joined (each mentions_s xs)) _ _ _ _ (same-S x) (same-any xs) h

pub same-union : (p : Policy) (f : Family) (a n : ℕ) (s t : ℕ → Set) → All (λ b. s b n ≡ t b n) (mentions p f a) → union_of p f s a n ≡ union_of p f t a n
unfolding union_of mentions
same-union p f a n s t h = same-any (count_in p f) n s t (sets_for f a p) h

-- a chain of k mentions starts at a
unfoldable pub chain : ℕ → Policy → Family → ℕ → Bool
chain zero p f a = true
chain (suc k) p f a = any (chain k p f) (mentions p f a)

-- where a test fails for the whole list, what follows from its failing holds of each
all_of : (P : ℕ → Type 0) (t : ℕ → Bool) (xs : List ℕ) → ((b : ℕ) → t b ≡ false → P b) → any t xs ≡ false → All P xs
unfolding any
all_of P t [] g h = tt
all_of P t (x ∷ xs) g h = (g x (neither (t x) (any t xs) h).0, all_of P t xs g (neither (t x) (any t xs) h).1)

-- what satisfies the equation is what `nested` gives
pub only : (p : Policy) (f : Family) (s : ℕ → Set) → ((a n : ℕ) → s a n ≡ union_of p f s a n)
    → (k a n : ℕ) → chain k p f a ≡ false → s a n ≡ nested k p f a n
unfolding chain nested
only p f s eqn zero a n h = absurd (true≢false h)
only p f s eqn (suc k) a n h =
    eqn a n ∙ same-union p f a n s (nested k p f) (all_of _ (chain k p f) (mentions p f a) (λ b g. only p f s eqn k b n g) h)

-- one level more gives the same
pub settled : (p : Policy) (f : Family) (k a n : ℕ) → chain k p f a ≡ false → nested k p f a n ≡ nested (suc k) p f a n
unfolding chain nested
settled p f zero a n h = absurd (true≢false h)
settled p f (suc k) a n h =
    same-union p f a n (nested k p f) (union_of p f (nested k p f)) (all_of _ (chain k p f) (mentions p f a) (λ b g. settled p f k b n g) h)
