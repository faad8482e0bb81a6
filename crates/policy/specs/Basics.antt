-- The small words that the other files are written in: tests over lists, answers that may be missing, names. Assumes nothing.
use Rattle.std.specs.Prelude.{Bool, true, false, ◌&&◌, ◌||◌, cond, List, [], ◌∷◌, ℕ, zero, suc, ◌+◌, ◌*◌, ◌/◌, ◌%◌, eqb}
use Rattle.std.proofs.Math.Option.{Option, none, some}

infixl 20 ◌>>=◌
-- a name is its bytes
abbrev pub Name : Type 0
Name = List ℕ

-- the two names are the same bytes
unfoldable pub same : Name → Name → Bool
same [] [] = true
same [] (y ∷ ys) = false
same (x ∷ xs) [] = false
same (x ∷ xs) (y ∷ ys) = eqb x y && same xs ys

-- go on with the value, if there is one
abbrev pub ◌>>=◌ : {A B : Type 0} → Option A → (A → Option B) → Option B
none >>= f = none
some a >>= f = f a

-- the first value, if there is one, and else the second
abbrev pub or_else : {A : Type 0} → Option A → Option A → Option A
or_else none y = y
or_else (some x) y = some x

-- the value, if the test passes
abbrev pub given : {A : Type 0} → Bool → A → Option A
given b a = cond b (some a) none

-- a property of every element of a list
abbrev pub All : {A : Type 0} → (A → Type 0) → List A → Type 0
All P [] = Unit {0}
All P (x ∷ xs) = P x × All P xs

module _ {A : Type 0} where
  -- the test passes for one of them; for every one of them
  unfoldable pub any : (A → Bool) → List A → Bool
  any f [] = false
  any f (x ∷ xs) = f x || any f xs

  unfoldable pub every : (A → Bool) → List A → Bool
  every f [] = true
  every f (x ∷ xs) = f x && every f xs

  -- the value before the rest, if both are there
  abbrev pub more : Option A → Option (List A) → Option (List A)
  more none r = none
  more (some a) none = none
  more (some a) (some r) = some (a ∷ r)

  -- the value before the rest, if it is there
  abbrev pub keep : Option A → List A → List A
  keep none r = r
  keep (some a) r = a ∷ r

module _ {A B : Type 0} where
  -- b of no values; f of exactly one value; f of exactly two
  abbrev pub of_none : B → List A → Option B
  of_none b [] = some b
  of_none b (x ∷ xs) = none

  abbrev pub of_one : (A → B) → List A → Option B
  of_one f [] = none
  of_one f (x ∷ []) = some (f x)
  of_one f (x ∷ y ∷ xs) = none

  abbrev pub of_two : (A → A → B) → List A → Option B
  of_two f [] = none
  of_two f (x ∷ []) = none
  of_two f (x ∷ y ∷ []) = some (f x y)
  of_two f (x ∷ y ∷ z ∷ xs) = none

  -- f of each
  unfoldable pub each : (A → B) → List A → List B
  each f [] = []
  each f (x ∷ xs) = f x ∷ each f xs

  -- f of each, if each has one
  unfoldable pub each_of : (A → Option B) → List A → Option (List B)
  each_of f [] = some []
  each_of f (x ∷ xs) = more (f x) (each_of f xs)

  -- f of those that have one
  unfoldable pub gather : (A → Option B) → List A → List B
  gather f [] = []
  gather f (x ∷ xs) = keep (f x) (gather f xs)

-- it is one of them
unfoldable pub is_in : Name → List Name → Bool
is_in w xs = any (same w) xs

unfoldable pub is_among : ℕ → List ℕ → Bool
is_among n xs = any (eqb n) xs

-- no two of them are the same
unfoldable pub differ : List Name → Bool
differ [] = true
differ (x ∷ xs) = cond (is_in x xs) false (differ xs)

-- one more, where there is a number
abbrev pub next : Option ℕ → Option ℕ
next none = none
next (some n) = some (n + 1)

-- the number of the first that is w: the things of a sort are numbered from 0 in text order
unfoldable pub index_of : Name → List Name → Option ℕ
index_of w [] = none
index_of w (x ∷ xs) = cond (same w x) (some 0) (next (index_of w xs))

-- where a value is found under its word
pub record Under (A : Type 0) : Type 0 where
  pub word : Name
  pub value : A

unfoldable pub lookup : {A : Type 0} → Name → List (Under A) → Option A
lookup w [] = none
lookup w (x ∷ xs) = cond (same w x.word) (some x.value) (lookup w xs)

-- "Little endian": the w bytes of a number, lowest first; the number of some bytes
unfoldable pub le : ℕ → ℕ → List ℕ
le zero n = []
le (suc w) n = n % 256 ∷ le w (n / 256)

unfoldable pub unle : List ℕ → ℕ
unle [] = 0
unle (b ∷ bs) = b + 256 * unle bs
