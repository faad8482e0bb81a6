-- The first element of a list that is bad after those before it, once for every such search: what is found is that element, and nothing
-- is found exactly where no element is bad. By induction on the elements that are left. Assumes nothing.
use Prim.Native.Nat.{ℕ, zero, suc, ◌<◌}
use native.Mathlib.Omega.{arith}
use mathlib.Core.Path.{◌≡◌, refl, ap, ◌∙◌}
use mathlib.Core.Logic.{◌↔◌}
use mathlib.Core.Bool.{Bool, true, false, cond}
use mathlib.Core.List.{List, [], ◌∷◌, ◌++◌, append_assoc, append-nil, nil≢cons, head-eq_of_cons-eq, tail-eq_of_cons-eq}
use mathlib.Core.Option.{Option, none, some, none-ne-some, some-ne-none, some-injective}
use lib.ListN.{length}

module _ {A : Type 0} (bad : List A → A → Bool) (place : A → ℕ) where
  -- the place of the first of those left that is bad after those before it
  unfoldable pub first_of : List A → List A → Option ℕ
  first_of done [] = none
  first_of done (x ∷ left) = cond (bad done x) (some (place x)) (first_of (done ++ (x ∷ [])) left)

  -- none of them is bad after those done and those before it
  abbrev FreeAfter : List A → List A → Type 0
  FreeAfter done l = (before : List A) (x : A) (after : List A) → l ≡ before ++ (x ∷ after) → bad (done ++ before) x ≡ false

  free-none : (done : List A) → FreeAfter done []
  free-none done [] x after e = absurd (nil≢cons e)
  free-none done (y ∷ before) x after e = absurd (nil≢cons e)

  free_more : (done : List A) (y : A) (l : List A) → bad done y ≡ false → FreeAfter (done ++ (y ∷ [])) l → FreeAfter done (y ∷ l)
  free_more done y l e h [] x after q = rw (append-nil done, ← head-eq_of_cons-eq q) e
  free_more done y l e h (z ∷ before) x after q =
      rw (← head-eq_of_cons-eq q) (rw (append_assoc done (y ∷ []) before) at (h before x after (tail-eq_of_cons-eq q)))

  free-here : (done : List A) (y : A) (l : List A) → FreeAfter done (y ∷ l) → bad done y ≡ false
  free-here done y l h = rw (append-nil done) at (h [] y l refl)

  free-rest : (done : List A) (y : A) (l : List A) → FreeAfter done (y ∷ l) → FreeAfter (done ++ (y ∷ [])) l
  free-rest done y l h before x after q = rw (append_assoc done (y ∷ []) before) (h (y ∷ before) x after (ap {B = List A} (λ r. y ∷ r) q))

  -- one that is bad after those done and those before it, of which none is
  pub record FirstAfter (done left : List A) (at : ℕ) : Type 0 where
    pub before : List A
    pub here : A
    pub after : List A
    pub split : left ≡ before ++ (here ∷ after)
    pub placed : place here ≡ at
    pub is-bad : bad (done ++ before) here ≡ true
    pub free : FreeAfter done before

  some_first : (left done : List A) (at : ℕ) → first_of done left ≡ some at → FirstAfter done left at
  unfolding first_of
  some_first [] done at h = absurd (none-ne-some at h)
  some_first (x ∷ left) done at h = go (bad done x) refl h (some_first left (done ++ (x ∷ [])) at)
    where
      go : (t : Bool) → bad done x ≡ t → cond t (some (place x)) (first_of (done ++ (x ∷ [])) left) ≡ some at
          → (first_of (done ++ (x ∷ [])) left ≡ some at → FirstAfter (done ++ (x ∷ [])) left at) → FirstAfter done (x ∷ left) at
      go true e k ih = record {
        before = [];
        here = x;
        after = left;
        split = refl;
        placed = some-injective (place x) at k;
        is-bad = rw (append-nil done) e;
        free = free-none done;
      }
      go false e k ih =
          let r = ih k in
          record {
            before = x ∷ r.before;
            here = r.here;
            after = r.after;
            split = ap {B = List A} (λ l. x ∷ l) r.split;
            placed = r.placed;
            is-bad = rw (append_assoc done (x ∷ []) r.before) at r.is-bad;
            free = free_more done x r.before e r.free;
          }

  first_some : (before done : List A) (x : A) (after : List A) → bad (done ++ before) x ≡ true → FreeAfter done before
      → first_of done (before ++ (x ∷ after)) ≡ some (place x)
  unfolding first_of
  first_some [] done x after e h = rw (rw (append-nil done) at e)
  first_some (y ∷ before) done x after e h = rw (free-here done y before h)
      (first_some before (done ++ (y ∷ [])) x after (rw (append_assoc done (y ∷ []) before) e) (free-rest done y before h))

  none_free : (left done : List A) → first_of done left ≡ none → FreeAfter done left
  unfolding first_of
  none_free [] done h = free-none done
  none_free (x ∷ left) done h = go (bad done x) refl h (none_free left (done ++ (x ∷ [])))
    where
      go : (t : Bool) → bad done x ≡ t → cond t (some (place x)) (first_of (done ++ (x ∷ [])) left) ≡ none
          → (first_of (done ++ (x ∷ [])) left ≡ none → FreeAfter (done ++ (x ∷ [])) left) → FreeAfter done (x ∷ left)
      go true e k ih = absurd (some-ne-none (place x) k)
      go false e k ih = free_more done x left e (ih k)

  free-first : (left done : List A) → FreeAfter done left → first_of done left ≡ none
  unfolding first_of
  free-first [] done h = refl
  free-first (x ∷ left) done h = rw (free-here done x left h) (free-first left (done ++ (x ∷ [])) (free-rest done x left h))

  -- THE FIRST, and that there is none, of a whole list
  abbrev pub First : List A → ℕ → Type 0
  First l at = FirstAfter [] l at

  abbrev pub Free : List A → Type 0
  Free l = (before : List A) (x : A) (after : List A) → l ≡ before ++ (x ∷ after) → bad before x ≡ false

  pub first-exactly : (l : List A) (at : ℕ) → (first_of [] l ≡ some at) ↔ First l at
  first-exactly l at = (
    some_first l [] at,
    λ r. ap (first_of []) r.split ∙ first_some r.before [] r.here r.after r.is-bad r.free ∙ ap {B = Option ℕ} some r.placed,
  )

  pub none-exactly : (l : List A) → (first_of [] l ≡ none) ↔ Free l
  none-exactly l = (none_free l [], free-first l [])

-- a list is cut at each of its numbers
pub cut_at : {A : Type 0} (l : List A) (n : ℕ) → n < length l
    → (before : List A) × (x : A) × (after : List A) × (l ≡ before ++ (x ∷ after)) × (length before ≡ n)
cut_at [] n h = absurd (omega (arith, h))
cut_at (y ∷ l) zero h = ([], y, l, refl, refl)
cut_at {A} (y ∷ l) (suc n) h =
    let r = cut_at l n (omega (arith, h)) in
    (y ∷ r.0, r.1, r.2, ap {B = List A} (λ s. y ∷ s) r.3, ap suc r.4)
