-- Laws of tests over lists and of gathered values that the other files use. Each is by induction on the list. Assumes nothing.
use Prim.Native.Nat.{ℕ}
use mathlib.Core.Path.{◌≡◌, refl, sym, ◌∙◌, subst}
use mathlib.Core.Logic.{◌⊎◌, inl, inr, ◌↔◌}
use mathlib.Core.Bool.{Bool, true, false, ◌||◌, cond, false≢true, or-true}
use mathlib.Core.List.{List, [], ◌∷◌}
use mathlib.Core.Option.{Option, none, some}
use lib.Dec.{eqb}
use borrow.Author.Tests.{eq-eqb, eqb-true}
use Rattle.policy.specs.Basics.{any, gather, keep, is_among, All}
use Rattle.meaning_laws.specs.Mentions.{Some}

pub decided : (t : Bool) → (t ≡ true) ⊎ (t ≡ false)
decided true = inl refl
decided false = inr refl

-- by cases of what a test of two parts says; a test of two parts from one of them
pub from_either : {P : Type 0} (a b : Bool) → (a ≡ true → P) → (b ≡ true → P) → (a || b) ≡ true → P
from_either true b f g h = f refl
from_either false b f g h = g h

pub or_left : (a b : Bool) → a ≡ true → (a || b) ≡ true
or_left a b h = rw h

pub or_right : (a b : Bool) → b ≡ true → (a || b) ≡ true
or_right a b h = rw (h, or-true a)

-- a test of two parts says one of two things, where each part says one
pub or-says : {P Q : Type 0} (a b : Bool) → P ↔ (a ≡ true) → Q ↔ (b ≡ true) → (P ⊎ Q) ↔ ((a || b) ≡ true)
or-says {P} {Q} a b f g = (there, λ h. from_either a b (λ e. inl (f.1 e)) (λ e. inr (g.1 e)) h)
  where
    there : P ⊎ Q → (a || b) ≡ true
    there (inl x) = or_left a b (f.0 x)
    there (inr y) = or_right a b (g.0 y)

-- a choice by cases of a test
pub chosen : {A : Type 0} (t : Bool) (x y : A) → (elim t as (λ _. A) [ true ↦ x | false ↦ y ]) ≡ cond t x y
chosen true x y = refl
chosen false x y = refl

module _ {A : Type 0} where
  -- a test that one of them passes, where each has a property: one that passes has it
  pub any_of : (P : A → Type 0) (f : A → Bool) (xs : List A) → All P xs → any f xs ≡ true → (x : A) × P x × (f x ≡ true)
  unfolding any
  any_of P f [] ps h = absurd (false≢true h)
  any_of P f (x ∷ xs) ps h = from_either (f x) (any f xs) (λ e. (x, ps.0, e)) (any_of P f xs ps.1) h

  -- what follows for one of them from a property of one and a property of all
  pub some_of : {R : Type 0} (P Q : A → Type 0) → ((x : A) → P x → Q x → R) → (xs : List A) → Some P xs → All Q xs → R
  some_of P Q h [] e qs = elim e [ ]
  some_of P Q h (x ∷ xs) (inl e) qs = h x e qs.0
  some_of P Q h (x ∷ xs) (inr e) qs = some_of P Q h xs e qs.1

module _ {A B : Type 0} where
  -- what is gathered has what each value has
  pub all-gathered : (P : A → Type 0) (Q : B → Type 0) (f : A → Option B) → ((x : A) (b : B) → P x → f x ≡ some b → Q b)
      → (xs : List A) → All P xs → All Q (gather f xs)
  unfolding gather
  all-gathered P Q f h [] ps = tt
  all-gathered P Q f h (x ∷ xs) ps = go (f x) (λ b. h x b ps.0) (all-gathered P Q f h xs ps.1)
    where
      go : (o : Option B) → ((b : B) → o ≡ some b → Q b) → All Q (gather f xs) → All Q (keep o (gather f xs))
      go none k r = r
      go (some b) k r = (k b refl, r)

-- a number is among these or is not; what a test says of one of them it says of the list
pub any-in : (g : ℕ → Bool) (a : ℕ) (xs : List ℕ) → is_among a xs ≡ true → g a ≡ true → any g xs ≡ true
unfolding any is_among
any-in g a [] h k = absurd (false≢true h)
any-in g a (x ∷ xs) h k = from_either (eqb a x) (any (eqb a) xs)
    (λ e. or_left (g x) (any g xs) (subst (λ (y : ℕ). g y ≡ true) (eqb-true a x e) k))
    (λ e. or_right (g x) (any g xs) (any-in g a xs e k)) h

pub any_out : (g : ℕ → Bool) (xs : List ℕ) → any g xs ≡ true → (x : ℕ) × (is_among x xs ≡ true) × (g x ≡ true)
unfolding any is_among
any_out g [] h = absurd (false≢true h)
any_out g (x ∷ xs) h = from_either (g x) (any g xs)
    (λ e. (x, or_left (eqb x x) (any (eqb x) xs) (eq-eqb x x refl), e))
    (λ e. let r = any_out g xs e in (r.0, or_right (eqb r.0 x) (any (eqb r.0) xs) r.1, r.2)) h

pub any_none : (g : ℕ → Bool) (xs : List ℕ) → ((x : ℕ) → is_among x xs ≡ true → g x ≡ false) → any g xs ≡ false
any_none g xs h = go (any g xs) refl
  where
    go : (t : Bool) → any g xs ≡ t → t ≡ false
    go false e = refl
    go true e = let r = any_out g xs e in absurd (false≢true (sym (h r.0 r.1) ∙ r.2))
