-- What holds of every element of a list: of the one at a place, of one that passes a test, of what is gathered from the list. Assumes nothing.
use Prim.Native.Nat.{ℕ, zero, suc}
use mathlib.Core.Path.{◌≡◌}
use mathlib.Core.Logic.{⊎_elim}
use mathlib.Core.Bool.{Bool, true, false≢true}
use mathlib.Core.List.{List, [], ◌∷◌}
use mathlib.Core.Option.{Option, none, some}
use lib.ListN.{get_or}
use Rattle.policy.specs.Basics.{any, gather, keep, All}
use Rattle.policy.proofs.Lists.{either_true}

-- a property of the value, if there is one
abbrev pub OfValue : {B : Type 0} → (B → Type 0) → Option B → Type 0
OfValue Q none = Unit {0}
OfValue Q (some b) = Q b

module _ {A : Type 0} where
  -- what follows of every element
  pub all_map : (P Q : A → Type 0) → ((x : A) → P x → Q x) → (xs : List A) → All P xs → All Q xs
  all_map P Q f [] h = tt
  all_map P Q f (x ∷ xs) h = (f x h.0, all_map P Q f xs h.1)

  -- the element at a place, or the given one where there is none
  pub all_get_d : (P : A → Type 0) (xs : List A) (i : ℕ) (d : A) → All P xs → P d → P (get_or xs i d)
  all_get_d P [] i d h k = k
  all_get_d P (x ∷ xs) zero d h k = h.0
  all_get_d P (x ∷ xs) (suc i) d h k = all_get_d P xs i d h.1 k

module _ {B : Type 0} (Q : B → Type 0) where
  all_keep : (o : Option B) (bs : List B) → OfValue Q o → All Q bs → All Q (keep o bs)
  all_keep none bs h k = k
  all_keep (some b) bs h k = (h, k)

  pub all-gather : {A : Type 0} (P : A → Type 0) (f : A → Option B) → ((x : A) → P x → OfValue Q (f x)) → (xs : List A) → All P xs → All Q (gather f xs)
  unfolding gather
  all-gather P f g [] h = tt
  all-gather P f g (x ∷ xs) h = all_keep (f x) (gather f xs) (g x h.0) (all-gather P f g xs h.1)

-- what follows from a test that one of the elements passes
pub any-holds : {A C : Type 0} (P : A → Type 0) (g : A → Bool) → ((x : A) → P x → g x ≡ true → C) → (xs : List A) → All P xs → any g xs ≡ true → C
unfolding any
any-holds P g f [] h e = absurd (false≢true e)
any-holds P g f (x ∷ xs) h e = ⊎_elim (f x h.0) (any-holds P g f xs h.1) (either_true (g x) (any g xs) e)
