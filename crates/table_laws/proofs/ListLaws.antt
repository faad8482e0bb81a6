-- What the laws of the table need of lists and of answers that may be missing. Assumes nothing.
use Prim.Native.Nat.{ℕ, zero, suc, ◌+◌, ◌<◌, ◌≤◌}
use native.Mathlib.Omega.{arith}
use mathlib.Core.Path.{◌≡◌, refl, sym, ap, ap₂, ◌∙◌, subst}
use mathlib.Core.Bool.{Bool, true}
use mathlib.Core.List.{List, [], ◌∷◌, ◌++◌, append_assoc}
use mathlib.Core.Option.{Option, none, some, none-ne-some, some-injective}
use lib.ListN.{length, get_or, take, drop, take-append-drop, length-append}
use lib.Seq.{drop-append-add}
use Rattle.bitset.specs.Relations.{joined}
use Rattle.policy.specs.Basics.{◌>>=◌, more, each, every, All}
use Rattle.policy.proofs.Lists.{both_true, all_left, all_right, all_append}

-- what went before an answer that is there
module _ {A B : Type 0} where
  pub bound : (o : Option A) (f : A → Option B) (b : B) → (o >>= f) ≡ some b → (a : A) × (o ≡ some a) × (f a ≡ some b)
  bound none f b h = absurd (none-ne-some b h)
  bound (some a) f b h = (a, refl, h)

  pub bound-then : {R : Type 0} (o : Option A) (f : A → Option B) (b : B) → (o >>= f) ≡ some b → ((a : A) → o ≡ some a → f a ≡ some b → R) → R
  bound-then o f b h k = let p = bound o f b h in k p.0 p.1 p.2

module _ {A : Type 0} where
  pub more-some : (o : Option A) (r : Option (List A)) (xs : List A) → more o r ≡ some xs
      → (a : A) × (ys : List A) × (o ≡ some a) × (r ≡ some ys) × (xs ≡ a ∷ ys)
  more-some none r xs h = absurd (none-ne-some xs h)
  more-some (some a) none xs h = absurd (none-ne-some xs h)
  more-some (some a) (some ys) xs h = (a, ys, refl, refl, sym (some-injective (a ∷ ys) xs h))

  pub more-after : (a : A) (r : Option (List A)) (xs : List A) → more (some a) r ≡ some xs → (ys : List A) × (r ≡ some ys) × (xs ≡ a ∷ ys)
  more-after a none xs h = absurd (none-ne-some xs h)
  more-after a (some ys) xs h = (ys, refl, sym (some-injective (a ∷ ys) xs h))

  -- a test of every element
  pub every-all : (f : A → Bool) (xs : List A) → every f xs ≡ true → All (λ (x : A). f x ≡ true) xs
  unfolding every
  every-all f [] h = tt
  every-all f (x ∷ xs) h = let p = both_true (f x) (every f xs) h in (p.0, every-all f xs p.1)

module _ {A : Type 0} (P : A → Type 0) where
  pub all_take : (n : ℕ) (xs : List A) → All P xs → All P (take n xs)
  all_take n xs h = all_left P (take n xs) (drop n xs) (subst (All P) (sym (take-append-drop n xs)) h)

  pub all_drop : (n : ℕ) (xs : List A) → All P xs → All P (drop n xs)
  all_drop n xs h = all_right P (take n xs) (drop n xs) (subst (All P) (sym (take-append-drop n xs)) h)

  -- by places
  pub all-places : (xs : List A) (d : A) → ((k : ℕ) → k < length xs → P (get_or xs k d)) → All P xs
  all-places [] d h = tt
  all-places (x ∷ xs) d h = (h 0 (omega arith), all-places xs d (λ k l. h (suc k) (omega arith)))

  -- one list after the other
  pub joined-all : (ss : List (List A)) → All (All P) ss → All P (joined ss)
  unfolding joined
  joined-all [] h = tt
  joined-all (s ∷ ss) h = all_append P s (joined ss) h.0 (joined-all ss h.1)

  pub all-joined : (ss : List (List A)) → All P (joined ss) → All (All P) ss
  unfolding joined
  all-joined [] h = tt
  all-joined (s ∷ ss) h = (all_left P s (joined ss) h, all-joined ss (all_right P s (joined ss) h))

pub all_both : {A : Type 0} (P Q : A → Type 0) (xs : List A) → All P xs → All Q xs → All (λ (x : A). P x × Q x) xs
all_both P Q [] h k = tt
all_both P Q (x ∷ xs) h k = ((h.0, k.0), all_both P Q xs h.1 k.1)

-- what holds of each after f
pub all-each : {A B : Type 0} (P : A → Type 0) (Q : B → Type 0) (f : A → B) → ((x : A) → P x → Q (f x)) → (xs : List A) → All P xs → All Q (each f xs)
unfolding each
all-each P Q f g [] h = tt
all-each P Q f g (x ∷ xs) h = (g x h.0, all-each P Q f g xs h.1)

-- f undoes g on each that has P
pub each_back : {A B : Type 0} (P : A → Type 0) (f : A → B) (g : B → A) → ((x : A) → P x → g (f x) ≡ x) → (xs : List A) → All P xs → each g (each f xs) ≡ xs
unfolding each
each_back P f g e [] h = refl
each_back {A} P f g e (x ∷ xs) h = ap₂ {C = List A} (λ y r. y ∷ r) (e x h.0) (each_back P f g e xs h.1)

-- body k and those before it are within all bodies
pub joined-room : (bs : List (List ℕ)) (k : ℕ) → length (joined (take k bs)) + length (get_or bs k []) ≤ length (joined bs)
unfolding joined
joined-room [] zero = omega arith
joined-room [] (suc k) = omega arith
joined-room (b ∷ bs) zero = omega (arith, length-append b (joined bs))
joined-room (b ∷ bs) (suc k) = omega (arith, length-append b (joined bs), length-append b (joined (take k bs)), joined-room bs k)

-- part k of parts that are one after the other, after those before it
pub joined-place : (bs : List (List ℕ)) (k : ℕ) (rest : List ℕ)
    → drop (length (joined (take k bs))) (joined bs ++ rest) ≡ get_or bs k [] ++ (joined (drop (suc k) bs) ++ rest)
unfolding joined
joined-place [] zero rest = refl
joined-place [] (suc k) rest = refl
joined-place (b ∷ bs) zero rest = append_assoc b (joined bs) rest
joined-place (b ∷ bs) (suc k) rest =
    ap₂ drop (length-append b (joined (take k bs))) (append_assoc b (joined bs) rest)
    ∙ (drop-append-add b (joined bs ++ rest) (length (joined (take k bs))) ∙ joined-place bs k rest)

-- a list that has nothing but d from place n on has its first n at every place
pub places-front : {A : Type 0} (n : ℕ) (xs : List A) (d : A) → ((k : ℕ) → n ≤ k → get_or xs k d ≡ d) → (k : ℕ) → get_or (take n xs) k d ≡ get_or xs k d
places-front zero xs d h k = sym (h k (omega arith))
places-front (suc n) [] d h k = refl
places-front (suc n) (x ∷ xs) d h zero = refl
places-front (suc n) (x ∷ xs) d h (suc k) = places-front n xs d (λ k l. h (suc k) (omega arith)) k

-- and, of lists, its first n one after the other are all of them
pub joined-front : (n : ℕ) (bs : List (List ℕ)) → ((k : ℕ) → n ≤ k → get_or bs k [] ≡ []) → joined (take n bs) ≡ joined bs
unfolding joined
joined-front zero [] h = refl
joined-front zero (b ∷ bs) h =
    ap₂ {C = List ℕ} (λ x r. x ++ r) (sym (h 0 (omega arith))) (joined-front zero bs (λ k l. h (suc k) (omega arith)))
joined-front (suc n) [] h = refl
joined-front (suc n) (b ∷ bs) h = ap (λ (r : List ℕ). b ++ r) (joined-front n bs (λ k l. h (suc k) (omega arith)))
