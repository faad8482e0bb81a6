-- The entries of a family and a length: how many, the first and the last, and what one entry more changes. Assumes nothing.
use mathlib.Core.Path.{◌≡◌, refl, sym, ap, ◌∙◌}
use mathlib.Core.Bool.{Bool, true, false, cond}
use mathlib.Core.Logic.{◌⊎◌, inl, inr}
use mathlib.Core.List.{List, [], ◌∷◌, ◌++◌}
use Prim.Native.Nat.{ℕ, zero, suc, ◌+◌, ◌<◌, ◌≤◌}
use native.Mathlib.Omega.{arith}
use borrow.Author.Tests.{eq-eqb, ne_eqb, eqb-true, eqb-false}
use lib.Dec.{eqb}
use lib.ListN.{length, drop}
use lib.Seq.{drop-nil}
use Rattle.policy.specs.Encode.{NameEntry}
use Rattle.policy.proofs.Lists.{both_true}
use Rattle.symbols.specs.Lookup.{family_number}
use Rattle.name_chains.specs.Compared.{is_candidate}
use Rattle.name_chains.specs.Chains.{how_many, first_candidate, last_candidate, Nth}

-- no entry is in a list that has none
no-nth : (k : ℕ) (d : NameEntry) (r : List NameEntry) → drop k [] ≡ d ∷ r → ⊥
no-nth k d r h =
    let n = drop-nil {A = NameEntry} k in
    let z : ◌≡◌ {A = ℕ} 0 1 = cc in
    omega arith

-- an entry of a list with one more is one of the list, or the one more
pub nth-more : (es : List NameEntry) (e : NameEntry) (k : ℕ) (d : NameEntry) → Nth (es ++ (e ∷ [])) k d
    → (Nth es k d × (k < length es)) ⊎ ((k ≡ length es) × (d ≡ e))
nth-more [] e zero d h = inr (refl, cc)
nth-more [] e (suc k) d h = absurd (no-nth k d _ h)
nth-more (x ∷ es) e zero d h = let q : x ≡ d = cc in inl (ap (λ (y : NameEntry). y ∷ es) q, omega arith)
nth-more (x ∷ es) e (suc k) d h = by (nth-more es e k d h)
  where
    by : (Nth es k d × (k < length es)) ⊎ ((k ≡ length es) × (d ≡ e))
        → (Nth (x ∷ es) (suc k) d × (suc k < length (x ∷ es))) ⊎ ((suc k ≡ length (x ∷ es)) × (d ≡ e))
    by (inl a) = inl (a.0, omega (arith, a.1))
    by (inr a) = inr (omega (arith, a.0), a.1)

pub nth-below : (es : List NameEntry) (k : ℕ) (d : NameEntry) → Nth es k d → k < length es
nth-below [] k d h = absurd (no-nth k d _ h)
nth-below (x ∷ es) zero d h = omega arith
nth-below (x ∷ es) (suc k) d h = omega (arith, nth-below es k d h)

-- the family and the length of a candidate
pub candidate-is : (f n : ℕ) (e : NameEntry) → is_candidate f n e ≡ true → (family_number e.sort e.number ≡ f) × (length e.name ≡ n)
candidate-is f n e h =
    let b = both_true (eqb (family_number e.sort e.number) f) (eqb (length e.name) n) h in
    (eqb-true (family_number e.sort e.number) f b.0, eqb-true (length e.name) n b.1)

pub candidate-self : (f n : ℕ) (e : NameEntry) → family_number e.sort e.number ≡ f → length e.name ≡ n → is_candidate f n e ≡ true
candidate-self f n e h g = rw (eq-eqb (family_number e.sort e.number) f h, eq-eqb (length e.name) n g)

module _ (f n : ℕ) where
  many-cons : (x : NameEntry) (xs : List NameEntry) (q : Bool) → is_candidate f n x ≡ q → how_many f n (x ∷ xs) ≡ cond q (1 + how_many f n xs) (how_many f n xs)
  unfolding how_many
  many-cons x xs q h = rw h

  first-cons : (x : NameEntry) (xs : List NameEntry) (q : Bool) → is_candidate f n x ≡ q → first_candidate f n (x ∷ xs) ≡ cond q 0 (1 + first_candidate f n xs)
  unfolding first_candidate
  first-cons x xs q h = rw h

  last_cons : (x : NameEntry) (xs : List NameEntry) (q : Bool) → eqb (how_many f n xs) 0 ≡ q → last_candidate f n (x ∷ xs) ≡ cond q 0 (1 + last_candidate f n xs)
  unfolding last_candidate
  last_cons x xs q h = rw h

  pub none-many : how_many f n [] ≡ 0
  unfolding how_many
  none-many = refl

  -- ---- how many

  pub many-append : (xs ys : List NameEntry) → how_many f n (xs ++ ys) ≡ how_many f n xs + how_many f n ys
  many-append [] ys = omega (arith, none-many)
  many-append (x ∷ xs) ys = by (is_candidate f n x) refl (many-append xs ys)
    where
      by : (q : Bool) → is_candidate f n x ≡ q → how_many f n (xs ++ ys) ≡ how_many f n xs + how_many f n ys
          → how_many f n (x ∷ (xs ++ ys)) ≡ how_many f n (x ∷ xs) + how_many f n ys
      by true q h = omega (arith, many-cons x (xs ++ ys) true q, many-cons x xs true q, h)
      by false q h = omega (arith, many-cons x (xs ++ ys) false q, many-cons x xs false q, h)

  pub many-one : (e : NameEntry) (q : Bool) → is_candidate f n e ≡ q → how_many f n (e ∷ []) ≡ cond q 1 0
  many-one e true h = omega (arith, many-cons e [] true h, none-many)
  many-one e false h = omega (arith, many-cons e [] false h, none-many)

  -- one entry more
  pub many_more : (es : List NameEntry) (e : NameEntry) (q : Bool) → is_candidate f n e ≡ q → how_many f n (es ++ (e ∷ [])) ≡ how_many f n es + cond q 1 0
  many_more es e q h = many-append es (e ∷ []) ∙ ap (λ (k : ℕ). how_many f n es + k) (many-one e q h)

  pub many-length : (xs : List NameEntry) → how_many f n xs ≤ length xs
  many-length [] = omega (arith, none-many)
  many-length (x ∷ xs) = by (is_candidate f n x) refl (many-length xs)
    where
      by : (q : Bool) → is_candidate f n x ≡ q → how_many f n xs ≤ length xs → how_many f n (x ∷ xs) ≤ suc (length xs)
      by true q h = omega (arith, many-cons x xs true q)
      by false q h = omega (arith, many-cons x xs false q)

  -- a candidate is among them
  pub many-nth : (es : List NameEntry) (k : ℕ) (d : NameEntry) → Nth es k d → is_candidate f n d ≡ true → 0 < how_many f n es
  many-nth [] k d h q = absurd (no-nth k d _ h)
  many-nth (x ∷ es) zero d h q =
      let e : x ≡ d = cc in
      omega (arith, many-cons x es true (ap (is_candidate f n) e ∙ q))
  many-nth (x ∷ es) (suc k) d h q = by (is_candidate f n x) refl (many-nth es k d h q)
    where
      by : (p : Bool) → is_candidate f n x ≡ p → 0 < how_many f n es → 0 < how_many f n (x ∷ es)
      by true p g = omega (arith, many-cons x es true p)
      by false p g = omega (arith, many-cons x es false p)

  -- ---- the first

  pub first-kept : (xs ys : List NameEntry) → 0 < how_many f n xs → first_candidate f n (xs ++ ys) ≡ first_candidate f n xs
  first-kept [] ys h = absurd (omega (arith, none-many))
  first-kept (x ∷ xs) ys h = by (λ g. first-kept xs ys g) (is_candidate f n x) refl
    where
      by : (0 < how_many f n xs → first_candidate f n (xs ++ ys) ≡ first_candidate f n xs) → (q : Bool) → is_candidate f n x ≡ q
          → first_candidate f n (x ∷ (xs ++ ys)) ≡ first_candidate f n (x ∷ xs)
      by ih true q = first-cons x (xs ++ ys) true q ∙ sym (first-cons x xs true q)
      by ih false q =
          let g : 0 < how_many f n xs = omega (arith, many-cons x xs false q) in
          omega (arith, first-cons x (xs ++ ys) false q, first-cons x xs false q, ih g)

  pub first-new : (xs : List NameEntry) (e : NameEntry) → how_many f n xs ≡ 0 → is_candidate f n e ≡ true → first_candidate f n (xs ++ (e ∷ [])) ≡ length xs
  first-new [] e h q = first-cons e [] true q
  first-new (x ∷ xs) e h q = by (λ g. first-new xs e g q) (is_candidate f n x) refl
    where
      by : (how_many f n xs ≡ 0 → first_candidate f n (xs ++ (e ∷ [])) ≡ length xs) → (p : Bool) → is_candidate f n x ≡ p
          → first_candidate f n (x ∷ (xs ++ (e ∷ []))) ≡ suc (length xs)
      by ih true p = absurd (omega (arith, many-cons x xs true p))
      by ih false p =
          let g : how_many f n xs ≡ 0 = omega (arith, many-cons x xs false p) in
          omega (arith, first-cons x (xs ++ (e ∷ [])) false p, ih g)

  -- ---- the last

  pub last-new : (xs : List NameEntry) (e : NameEntry) → is_candidate f n e ≡ true → last_candidate f n (xs ++ (e ∷ [])) ≡ length xs
  last-new [] e q = last_cons e [] true (eq-eqb (how_many f n []) 0 none-many)
  last-new (x ∷ xs) e q =
      let some_more = ne_eqb (how_many f n (xs ++ (e ∷ []))) 0 (λ z. omega (arith, many_more xs e true q)) in
      omega (arith, last_cons x (xs ++ (e ∷ [])) false some_more, last-new xs e q)

  pub last-kept : (xs : List NameEntry) (e : NameEntry) → is_candidate f n e ≡ false → last_candidate f n (xs ++ (e ∷ [])) ≡ last_candidate f n xs
  unfolding last_candidate
  last-kept [] e q = last_cons e [] true (eq-eqb (how_many f n []) 0 none-many)
  last-kept (x ∷ xs) e q =
      let m : how_many f n (xs ++ (e ∷ [])) ≡ how_many f n xs = omega (arith, many_more xs e false q) in
      rw (m, last-kept xs e q)

  pub last-below : (xs : List NameEntry) → 0 < how_many f n xs → last_candidate f n xs < length xs
  last-below [] h = absurd (omega (arith, none-many))
  last-below (x ∷ xs) h = by (λ g. last-below xs g) (eqb (how_many f n xs) 0) refl
    where
      by : (0 < how_many f n xs → last_candidate f n xs < length xs) → (q : Bool) → eqb (how_many f n xs) 0 ≡ q → last_candidate f n (x ∷ xs) < suc (length xs)
      by ih true q = omega (arith, last_cons x xs true q)
      by ih false q =
          let d = eqb-false (how_many f n xs) 0 q in
          let g : 0 < how_many f n xs = omega arith in
          omega (arith, last_cons x xs false q, ih g)

  -- a candidate with none after it is the last
  pub last-is : (xs : List NameEntry) (k : ℕ) (d : NameEntry) → Nth xs k d → is_candidate f n d ≡ true → how_many f n (drop (suc k) xs) ≡ 0
      → last_candidate f n xs ≡ k
  last-is [] k d h q z = absurd (no-nth k d _ h)
  last-is (x ∷ xs) zero d h q z = last_cons x xs true (eq-eqb (how_many f n xs) 0 z)
  last-is (x ∷ xs) (suc k) d h q z =
      let m = many-nth xs k d h q in
      let c = ne_eqb (how_many f n xs) 0 (λ y. omega arith) in
      omega (arith, last_cons x xs false c, last-is xs k d h q z)

  -- the last is a candidate, and has none after it
  pub none-behind : (xs : List NameEntry) (k : ℕ) → 0 < how_many f n xs → last_candidate f n xs ≡ k → how_many f n (drop (suc k) xs) ≡ 0
  none-behind [] k h e = absurd (omega (arith, none-many))
  none-behind (x ∷ xs) k h e = by (λ j g d. none-behind xs j g d) (eqb (how_many f n xs) 0) refl k e
    where
      by : ((j : ℕ) → 0 < how_many f n xs → last_candidate f n xs ≡ j → how_many f n (drop (suc j) xs) ≡ 0) → (q : Bool) → eqb (how_many f n xs) 0 ≡ q
          → (k : ℕ) → last_candidate f n (x ∷ xs) ≡ k → how_many f n (drop k xs) ≡ 0
      by ih true q zero e = eqb-true (how_many f n xs) 0 q
      by ih true q (suc k) e = absurd (omega (arith, last_cons x xs true q))
      by ih false q zero e = absurd (omega (arith, last_cons x xs false q))
      by ih false q (suc k) e =
          let d = eqb-false (how_many f n xs) 0 q in
          let g : 0 < how_many f n xs = omega arith in
          ih k g (omega (arith, last_cons x xs false q))

  pub last-candidate : (xs : List NameEntry) (k : ℕ) (d : NameEntry) → 0 < how_many f n xs → last_candidate f n xs ≡ k → Nth xs k d → is_candidate f n d ≡ true
  last-candidate [] k d h e t = absurd (omega (arith, none-many))
  last-candidate (x ∷ xs) k d h e t = by (λ j g c r. last-candidate xs j d g c r) (eqb (how_many f n xs) 0) refl k e t
    where
      head : (p : Bool) → is_candidate f n x ≡ p → how_many f n xs ≡ 0 → is_candidate f n x ≡ true
      head true p z = p
      head false p z = absurd (omega (arith, many-cons x xs false p))

      by : ((j : ℕ) → 0 < how_many f n xs → last_candidate f n xs ≡ j → Nth xs j d → is_candidate f n d ≡ true) → (q : Bool) → eqb (how_many f n xs) 0 ≡ q
          → (k : ℕ) → last_candidate f n (x ∷ xs) ≡ k → Nth (x ∷ xs) k d → is_candidate f n d ≡ true
      by ih true q zero e t =
          let s : x ≡ d = cc in
          ap (is_candidate f n) (sym s) ∙ head (is_candidate f n x) refl (eqb-true (how_many f n xs) 0 q)
      by ih true q (suc k) e t = absurd (omega (arith, last_cons x xs true q))
      by ih false q zero e t = absurd (omega (arith, last_cons x xs false q))
      by ih false q (suc k) e t =
          let c = eqb-false (how_many f n xs) 0 q in
          let g : 0 < how_many f n xs = omega arith in
          ih k g (omega (arith, last_cons x xs false q)) t
