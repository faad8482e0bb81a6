-- Laws of the small words of specs/Basics that every other proof uses: lists one after the other, tests over lists, values gathered.
-- Each is by induction on the first list. Assumes nothing.
use Prim.Native.Nat.{ℕ, zero, suc, ◌<◌}
use mathlib.Core.Path.{◌≡◌, refl, sym, ap, ◌∙◌}
use mathlib.Core.Logic.{◌⊎◌, inl, inr}
use mathlib.Core.Bool.{Bool, true, false, ◌&&◌, ◌||◌, or_assoc, and_assoc, false≢true}
use mathlib.Core.List.{List, [], ◌∷◌, ◌++◌, append_assoc}
use mathlib.Core.Option.{Option, none, some}
use native.Mathlib.Omega.{arith}
use lib.Dec.{eqb}
use lib.ListN.{length, get_or, get_elem?}
use borrow.Author.Tests.{eqb-true}
use Rattle.bitset.specs.Relations.{joined}
use Rattle.policy.specs.Basics.{Name, same, gather, any, every, keep, each, All}

-- what a test of two parts says of each
pub both_true : (a b : Bool) → (a && b) ≡ true → (a ≡ true) × (b ≡ true)
both_true true true h = (refl, refl)
both_true true false h = absurd (false≢true h)
both_true false b h = absurd (false≢true h)

pub true-both : (a b : Bool) → a ≡ true → b ≡ true → (a && b) ≡ true
true-both true true h k = refl
true-both true false h k = k
true-both false b h k = h

pub either_true : (a b : Bool) → (a || b) ≡ true → (a ≡ true) ⊎ (b ≡ true)
either_true true b h = inl refl
either_true false b h = inr h

pub neither : (a b : Bool) → (a || b) ≡ false → (a ≡ false) × (b ≡ false)
neither false b h = (refl, h)
neither true b h = absurd (false≢true (sym h))

-- two tests of which each passes where the other does
pub same_tests : (a b : Bool) → (a ≡ true → b ≡ true) → (b ≡ true → a ≡ true) → a ≡ b
same_tests true b f g = sym (f refl)
same_tests false true f g = g refl
same_tests false false f g = refl

-- where a test passes, what follows may be exchanged
pub under : (b : Bool) {x y : Bool} → (b ≡ true → x ≡ y) → (b && x) ≡ (b && y)
under false h = refl
under true h = h refl

-- names are the same where the test says so
pub same-is : (v w : Name) → same v w ≡ true → v ≡ w
unfolding same
same-is [] [] e = refl
same-is [] (y ∷ w) e = absurd (let z : ◌≡◌ {A = ℕ} 0 1 = cc in omega arith)
same-is (x ∷ v) [] e = absurd (let z : ◌≡◌ {A = ℕ} 0 1 = cc in omega arith)
same-is (x ∷ v) (y ∷ w) e =
    let b = both_true (eqb x y) (same v w) e in
    let h = eqb-true x y b.0 in
    let t = same-is v w b.1 in
    cc

module _ {A : Type 0} where
  -- what is at a place
  pub at_place : (xs : List A) (k : ℕ) (d : A) → k < length xs → get_elem? xs k ≡ some (get_or xs k d)
  at_place [] k d h = absurd (omega arith)
  at_place (x ∷ xs) zero d h = refl
  at_place (x ∷ xs) (suc k) d h = at_place xs k d (omega arith)

  pub any_append : (f : A → Bool) (xs ys : List A) → any f (xs ++ ys) ≡ (any f xs || any f ys)
  unfolding any
  any_append f [] ys = refl
  any_append f (x ∷ xs) ys = ap (λ b. f x || b) (any_append f xs ys) ∙ sym (or_assoc (f x) (any f xs) (any f ys))

  pub every_append : (f : A → Bool) (xs ys : List A) → every f (xs ++ ys) ≡ (every f xs && every f ys)
  unfolding every
  every_append f [] ys = refl
  every_append f (x ∷ xs) ys = ap (λ b. f x && b) (every_append f xs ys) ∙ sym (and_assoc (f x) (every f xs) (every f ys))

  pub joined-append : (xs ys : List (List A)) → joined (xs ++ ys) ≡ joined xs ++ joined ys
  unfolding joined
  joined-append [] ys = refl
  joined-append (x ∷ xs) ys = ap (λ r. x ++ r) (joined-append xs ys) ∙ sym (append_assoc x (joined xs) (joined ys))

kept : {B : Type 0} (o : Option B) (xs ys : List B) → keep o (xs ++ ys) ≡ keep o xs ++ ys
kept none xs ys = refl
kept (some b) xs ys = refl

module _ {A B : Type 0} where
  pub each_append : (f : A → B) (xs ys : List A) → each f (xs ++ ys) ≡ each f xs ++ each f ys
  unfolding each
  each_append f [] ys = refl
  each_append f (x ∷ xs) ys = ap {B = List B} (λ r. f x ∷ r) (each_append f xs ys)

  pub each-length : (f : A → B) (xs : List A) → length (each f xs) ≡ length xs
  unfolding each
  each-length f [] = refl
  each-length f (x ∷ xs) = ap suc (each-length f xs)

  pub gather_append : (f : A → Option B) (xs ys : List A) → gather f (xs ++ ys) ≡ gather f xs ++ gather f ys
  unfolding gather
  gather_append f [] ys = refl
  gather_append f (x ∷ xs) ys = ap (λ r. keep (f x) r) (gather_append f xs ys) ∙ kept (f x) (gather f xs) (gather f ys)

  -- what f passes over may be at the end; what it takes is taken last
  pub gather-over : (f : A → Option B) (xs : List A) (x : A) → f x ≡ none → gather f (xs ++ (x ∷ [])) ≡ gather f xs
  unfolding gather
  gather-over f [] x h = ap (λ o. keep o []) h
  gather-over f (y ∷ ys) x h = ap (λ r. keep (f y) r) (gather-over f ys x h)

  pub gather-last : (f : A → Option B) (xs : List A) (x : A) (b : B) → f x ≡ some b → gather f (xs ++ (x ∷ [])) ≡ gather f xs ++ (b ∷ [])
  unfolding gather
  gather-last f [] x b h = ap (λ o. keep o []) h
  gather-last f (y ∷ ys) x b h = ap (λ r. keep (f y) r) (gather-last f ys x b h) ∙ kept (f y) (gather f ys) (b ∷ [])

pub any-ext : {A : Type 0} (f g : A → Bool) (xs : List A) → ((x : A) → f x ≡ g x) → any f xs ≡ any g xs
unfolding any
any-ext f g [] h = refl
any-ext f g (x ∷ xs) h = rw (h x, any-ext f g xs h)

pub any-over : {A : Type 0} (f : A → Bool) (xs : List A) (x : A) → f x ≡ false → any f (xs ++ (x ∷ [])) ≡ any f xs
unfolding any
any-over f [] x h = ap (λ b. b || false) h
any-over f (y ∷ ys) x h = ap (λ b. f y || b) (any-over f ys x h)

-- a property of every element of two lists
module _ {A : Type 0} (P : A → Type 0) where
  pub all_left : (xs ys : List A) → All P (xs ++ ys) → All P xs
  all_left [] ys h = tt
  all_left (x ∷ xs) ys h = (h.0, all_left xs ys h.1)

  pub all_right : (xs ys : List A) → All P (xs ++ ys) → All P ys
  all_right [] ys h = h
  all_right (x ∷ xs) ys h = all_right xs ys h.1

  pub all_append : (xs ys : List A) → All P xs → All P ys → All P (xs ++ ys)
  all_append [] ys h k = k
  all_append (x ∷ xs) ys h k = (h.0, all_append xs ys h.1 k)
