-- How operands and names are counted, and how a row of names goes on by an item. Assumes nothing.
use mathlib.Core.Path.{◌≡◌, refl, sym, ap}
use mathlib.Core.Bool.{Bool, true, false, ◌&&◌, false≢true}
use mathlib.Core.List.{List, [], ◌∷◌}
use mathlib.Core.Option.{Option, none, some}
use Prim.Native.Nat.{ℕ, suc, ◌+◌, ◌-◌}
use native.Mathlib.Nat.{add-zero}
use native.Mathlib.Omega.{arith}
use borrow.Author.Tests.{ne_eqb}
use lib.Dec.{eqb}
use lib.ListN.{length}
use Rattle.lexer.specs.Forms.{Forms, closed, ended, word, part, trim}
use Rattle.policy.specs.Basics.{Name, ◌>>=◌, more, of_none, of_one, of_two}
use Rattle.policy.specs.Grammar.{row_of}
use Rattle.words.specs.Numbers.{may_be, taken_as}
use Rattle.words.specs.declared.NameKind.{NameKind}
use Rattle.items.specs.Reads.{is_some, enough, counted}
use Rattle.items.specs.declared.Wanted.{Wanted}

-- what does not pass is not there
pub none_of : {A : Type 0} (o : Option A) → is_some o ≡ false → o ≡ none
none_of none e = refl
none_of (some a) e = absurd (false≢true (sym e))

-- one more that is there; one that is not
pub one_more : {A : Type 0} (w : Wanted) (n : ℕ) (o : Option A) (r : Option (List A)) → is_some o ≡ true → counted w n (more o r) ≡ counted w (n + 1) r
unfolding counted
one_more w n none r e = absurd (let z : ◌≡◌ {A = ℕ} 0 1 = cc in omega arith)
one_more w n (some a) none e = refl
one_more w n (some a) (some xs) e = ap (enough w) (let d : n + suc (length xs) ≡ n + 1 + length xs = omega arith in d)

pub one_less : {A : Type 0} (w : Wanted) (n : ℕ) (o : Option A) (r : Option (List A)) → is_some o ≡ false → counted w n (more o r) ≡ false
unfolding counted
one_less w n none r e = refl
one_less w n (some a) r e = absurd (let z : ◌≡◌ {A = ℕ} 0 1 = cc in omega arith)

-- none any more
pub no_more : (A : Type 0) (w : Wanted) (n : ℕ) → counted {A = A} w n (some []) ≡ enough w n
unfolding counted
no_more A w n = ap (enough w) (add-zero n)

-- none, one or two of them
module _ {A B : Type 0} where
  pub of-none : (b : B) (xs : Option (List A)) → counted (Wanted.Exactly 0) 0 xs ≡ is_some (xs >>= of_none b)
  unfolding counted
  of-none b none = refl
  of-none b (some []) = refl
  of-none b (some (x ∷ xs)) = ne_eqb (0 + suc (length xs)) 0 (λ z. omega arith)

  pub of_one_lem : (f : A → B) (xs : Option (List A)) → counted (Wanted.Exactly 1) 0 xs ≡ is_some (xs >>= of_one f)
  unfolding counted
  of_one_lem f none = refl
  of_one_lem f (some []) = refl
  of_one_lem f (some (x ∷ [])) = refl
  of_one_lem f (some (x ∷ y ∷ xs)) = ne_eqb (0 + suc (suc (length xs))) 1 (λ z. omega arith)

  pub of_two_lem : (f : A → A → B) (xs : Option (List A)) → counted (Wanted.Exactly 2) 0 xs ≡ is_some (xs >>= of_two f)
  unfolding counted
  of_two_lem f none = refl
  of_two_lem f (some []) = refl
  of_two_lem f (some (x ∷ [])) = refl
  of_two_lem f (some (x ∷ y ∷ [])) = refl
  of_two_lem f (some (x ∷ y ∷ z ∷ xs)) = ne_eqb (0 + suc (suc (suc (length xs)))) 2 (λ z. omega arith)

-- ---- names

-- a row of names of a kind by the first of them, after n
module _ (k : NameKind) (v : Wanted) (n : ℕ) where
  pub word-name : (w : Name) (s : ℕ) (f : Forms) (b : Bool) → b ≡ may_be k w
      → counted v n (row_of (taken_as k) (word s w f)) ≡ b && counted v (n + 1) (row_of (taken_as k) f)
  unfolding row_of
  word-name w s f true h = one_more v n (taken_as k w) (row_of (taken_as k) f) (rw (sym h))
  word-name w s f false h = one_less v n (taken_as k w) (row_of (taken_as k) f) (rw (sym h))

  pub close-name : counted v n (row_of (taken_as k) closed) ≡ enough v n
  unfolding row_of
  close-name = no_more Name v n

  pub end-name : counted v n (row_of (taken_as k) ended) ≡ false
  unfolding row_of counted
  end-name = refl

  pub part-name : (p : ℕ) (f g : Forms) → counted v n (row_of (taken_as k) (part p f g)) ≡ false
  unfolding row_of counted
  part-name p f g = refl

-- a cut does not change whether a row is one of names
pub trim-names : (taken : Name → Option Name) (f : Forms) (n : ℕ) → row_of taken (trim f n) ≡ row_of taken f
unfolding trim row_of
trim-names taken closed n = refl
trim-names taken ended n = refl
trim-names taken (word s b f) n = ap (more (taken b)) (trim-names taken f n)
trim-names taken (part p f g) n = go (eqb n 0)
  where
    go : (b : Bool) → row_of taken (elim b [ true ↦ ended | false ↦ part p (trim f (n - 1)) (trim g n) ]) ≡ none
    go true = refl
    go false = refl
