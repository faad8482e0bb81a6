-- A property of the value of an answer that may be missing, carried through the words that such answers are built with: the definitions
-- of the reading are chains of these words, and a proof about one follows its chain. Assumes nothing.
use Prim.Native.Nat.{◌<◌, zero-le, suc-le-suc}
use mathlib.Core.Path.{◌≡◌, refl, subst}
use mathlib.Core.Bool.{Bool, true, false}
use mathlib.Core.List.{List, [], ◌∷◌}
use mathlib.Core.Option.{Option, none, some, some-injective, none-ne-some}
use lib.ListN.{length}
use Rattle.lexer.specs.Forms.{Forms, closed, ended, word, part}
use Rattle.policy.specs.Basics.{◌>>=◌, given, more, each_of, of_one, of_two, All, or_else}
use Rattle.policy.specs.Grammar.{at_close}

-- the value has the property, if there is one
pub record IfAny {A : Type 0} (P : A → Type 0) (o : Option A) : Type 0 where
  pub has : (a : A) → o ≡ some a → P a

module _ {A : Type 0} {P : A → Type 0} where
  pub nothing : IfAny P none
  nothing = record { has = λ a e. absurd (none-ne-some a e) }

  pub just : {a : A} → P a → IfAny P (some a)
  just {a} h = record { has = λ b e. subst P (some-injective a b e) h }

  pub or-else : (x y : Option A) → IfAny P x → IfAny P y → IfAny P (or_else x y)
  or-else none y h k = k
  or-else (some a) y h k = h

  pub if-given : (b : Bool) (a : A) → (b ≡ true → P a) → IfAny P (given b a)
  if-given true a h = just (h refl)
  if-given false a h = nothing

  -- the end of a row
  pub at-close : (f : Forms) (o : Option A) → IfAny P o → IfAny P (at_close f o)
  at-close closed o h = h
  at-close ended o h = nothing
  at-close (word at w r) o h = nothing
  at-close (part p i r) o h = nothing

module _ {A B : Type 0} {Q : B → Type 0} where
  -- where nothing needs to be known of the first value
  pub whatever : (o : Option A) (f : A → Option B) → ((a : A) → IfAny Q (f a)) → IfAny Q (o >>= f)
  whatever none f k = nothing
  whatever (some a) f k = k a

module _ {A B : Type 0} {P : A → Type 0} {Q : B → Type 0} where
  pub and_then : (o : Option A) (f : A → Option B) → IfAny P o → ((a : A) → P a → IfAny Q (f a)) → IfAny Q (o >>= f)
  and_then none f h k = nothing
  and_then (some a) f h k = k a (h.has a refl)

  pub if-one : (f : A → B) (xs : List A) → All P xs → ((a : A) → P a → Q (f a)) → IfAny Q (of_one f xs)
  if-one f [] h k = nothing
  if-one f (x ∷ []) h k = just (k x h.0)
  if-one f (x ∷ y ∷ xs) h k = nothing

  pub if-two : (f : A → A → B) (xs : List A) → All P xs → ((a b : A) → P a → P b → Q (f a b)) → IfAny Q (of_two f xs)
  if-two f [] h k = nothing
  if-two f (x ∷ []) h k = nothing
  if-two f (x ∷ y ∷ []) h k = just (k x y h.0 h.1.0)
  if-two f (x ∷ y ∷ z ∷ xs) h k = nothing

-- a value before the rest: one at least, and each with the property
module _ {A : Type 0} {P : A → Type 0} where
  pub some_more : (x : Option A) (xs : Option (List A)) → IfAny P x → IfAny (All P) xs → IfAny (λ l. (0 < length l) × All P l) (more x xs)
  some_more none xs h k = nothing
  some_more (some a) none h k = nothing
  some_more (some a) (some r) h k = just (suc-le-suc zero-le, (h.has a refl, k.has r refl))

  pub if-more : (x : Option A) (xs : Option (List A)) → IfAny P x → IfAny (All P) xs → IfAny (All P) (more x xs)
  if-more x xs h k = record { has = λ l e. ((some_more x xs h k).has l e).1 }

  pub if-each : {B : Type 0} (f : B → Option A) (xs : List B) → ((b : B) → IfAny P (f b)) → IfAny (All P) (each_of f xs)
  unfolding each_of
  if-each f [] h = just tt
  if-each f (x ∷ xs) h = if-more (f x) (each_of f xs) (h x) (if-each f xs h)
