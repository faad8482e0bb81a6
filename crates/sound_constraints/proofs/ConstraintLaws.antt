-- Constraints take up the rows as `assign_rows` deals them out, validatetrans statements as `assign_relabels` does, and each of them is good where the
-- test says so: said once for both, by induction on the statements, whose rows are split off.
-- Assumes nothing.
use Prim.Native.Nat.{ℕ, suc, ◌+◌, ◌<◌, ◌≤◌}
use native.Mathlib.Omega.{arith}
use mathlib.Core.Path.{◌≡◌, refl, sym, ap, ◌∙◌}
use mathlib.Core.Bool.{Bool, true, false, ◌&&◌, cond, and-false, and_assoc}
use mathlib.Core.List.{List, [], ◌∷◌, ◌++◌}
use mathlib.Core.Option.{Option, none, some, some-injective}
use lib.Dec.{eqb, leb}
use lib.ListN.{length, get_or, take, drop, take-append-drop, length-append}
use lib.Seq.{take_at, drop_at, length-take-le}
use borrow.Author.Tests.{ne_eqb, le-leb, lt-leb, leb-true, leb-false}
use Rattle.policy.specs.Basics.{◌>>=◌, given, more, each_of, every}
use Rattle.policy.specs.Statements.{Declaration}
use Rattle.policy.specs.Maxima.{max_stack}
use Rattle.policy.specs.Rows.{Row, after, balanced}
use Rattle.policy.specs.Image.{ConstraintEntry, RelabelEntry}
use Rattle.policy.specs.Encode.{ConstraintRecord, RelabelRecord}
use Rattle.policy.specs.Sound.{good_constraint, good_relabel, row_at, assign_rows, assign_relabels}
use Rattle.table_laws.proofs.ListLaws.{more-some}
use Rattle.table_reader.specs.Records as records
use Rattle.sound_constraints.specs.Totals.{Totals, totals_of}
use Rattle.sound_constraints.specs.SoundRows.{passes, fits_row, rows_fit, AskedOf, take_up, asks_constraint, asks_relabel, fits_constraint, constraints_fit, fits_relabel, relabels_fit}

-- ONE STATEMENT'S ROWS

-- tests in another order
swapped : (g b e l : Bool) → (g && b && (e && l)) ≡ (g && e && (b && l))
swapped false b e l = refl
swapped true true e l = refl
swapped true false e l = sym (and-false e)

pub rows-law : (good : Row → Bool) (ts : List (List ℕ)) (d : ℕ) → rows_fit good ts d ≡ passes (each_of row_at ts) (λ rs. every good rs && balanced rs d)
unfolding rows_fit each_of every balanced
rows-law good [] d = refl
rows-law good (t ∷ ts) d = by (eqb (get_or t 3 0) 0) (each_of row_at ts) (rows-law good ts (after r d))
  where
    r : Row
    r = records.row_at t

    by : (b : Bool) (o : Option (List Row)) {x : Bool} → x ≡ passes o (λ rs. every good rs && balanced rs (after r d))
        → (b && good r && (leb 1 (after r d) && leb (after r d) max_stack) && x) ≡ passes (more (given b r) o) (λ rs. every good rs && balanced rs d)
    by false o e = refl
    by true none e = rw e (and-false (good r && (leb 1 (after r d) && leb (after r d) max_stack)))
    by true (some rs) e = rw e (swapped (good r) (leb 1 (after r d) && leb (after r d) max_stack) (every good rs) (balanced rs (after r d)))

-- VALUES OF A LIST IN TWO PARTS

module _ {A B : Type 0} (f : A → Option B) where
  each-of-append : (xs ys : List A) → each_of f (xs ++ ys) ≡ (each_of f xs >>= λ us. each_of f ys >>= λ vs. some (us ++ vs))
  unfolding each_of
  each-of-append [] ys = all (each_of f ys)
    where
      all : (o : Option (List B)) → o ≡ (o >>= λ vs. some vs)
      all none = refl
      all (some vs) = refl
  each-of-append (x ∷ xs) ys = ap (more (f x)) (each-of-append xs ys) ∙ first (f x) (each_of f xs) (each_of f ys)
    where
      first : (o : Option B) (p q : Option (List B))
          → more o (p >>= λ us. q >>= λ vs. some (us ++ vs)) ≡ (more o p >>= λ us. q >>= λ vs. some (us ++ vs))
      first none p q = refl
      first (some a) none q = refl
      first (some a) (some us) none = refl
      first (some a) (some us) (some vs) = refl

  pub each-of-length : (xs : List A) (ys : List B) → each_of f xs ≡ some ys → length ys ≡ length xs
  unfolding each_of
  each-of-length [] ys e = sym (ap length (some-injective [] ys e))
  each-of-length (x ∷ xs) ys e =
      let m = more-some (f x) (each_of f xs) ys e in ap length m.4 ∙ ap suc (each-of-length xs m.1 m.3)

-- ALL STATEMENTS

-- rows are dealt out to statements as their records say, from row r on, with none left
unfoldable deal_out : {A B : Type 0} → AskedOf A → (A → List Row → B) → ℕ → List A → List Row → Option (List B)
deal_out asks entry r [] [] = some []
deal_out asks entry r [] (x ∷ xs) = none
deal_out asks entry r (h ∷ hs) rs = cond (asks.starts h r && leb (asks.rows h) (length rs))
    (more (some (entry h (take (asks.rows h) rs))) (deal_out asks entry (r + asks.rows h) hs (drop (asks.rows h) rs)))
    none

-- a statement fits where its record and its rows do
module _ {A B : Type 0} (asks : AskedOf A) (good : Row → Bool) (entry : A → List Row → B) (fits : B → Bool)
    (agree : (h : A) (us : List Row) → fits (entry h us) ≡ (asks.fits h && every good us && balanced us 0)) where
  -- what the rows are dealt out as, and all of it is good
  abbrev dealt : ℕ → List A → Option (List Row) → Bool
  dealt r hs o = passes (o >>= λ rs. deal_out asks entry r hs rs) (every fits)

  none_left : (r : ℕ) (o : Option Row) (p : Option (List Row)) → false ≡ dealt r [] (more o p)
  unfolding deal_out
  none_left r none p = refl
  none_left r (some x) none = refl
  none_left r (some x) (some xs) = refl

  module _ (r : ℕ) (h : A) (hs : List A) where
    -- too few rows are left
    too_few : (o : Option (List Row)) → ((rs : List Row) → o ≡ some rs → length rs < asks.rows h) → false ≡ dealt r (h ∷ hs) o
    unfolding deal_out
    too_few none l = refl
    too_few (some rs) l = rw (lt-leb (asks.rows h) (length rs) (l rs refl), and-false (asks.starts h r))

    with_first : (f : Bool) (us : List Row) (o : Option (List B))
        → (f && true && asks.fits h && (every good us && balanced us 0) && passes o (every fits))
        ≡ passes (cond (f && true) (more (some (entry h us)) o) none) (every fits)
    unfolding every
    with_first false us o = refl
    with_first true us none = and-false (asks.fits h && (every good us && balanced us 0))
    with_first true us (some cs) = ap (λ b. b && every fits cs) (sym (and_assoc (asks.fits h) (every good us) (balanced us 0)) ∙ sym (agree h us))

    -- the first statement takes up as many rows as it says
    taken : (o p : Option (List Row)) {x y : Bool} → ((us : List Row) → o ≡ some us → length us ≡ asks.rows h)
        → x ≡ passes o (λ us. every good us && balanced us 0) → y ≡ dealt (r + asks.rows h) hs p
        → (asks.starts h r && true && asks.fits h && x && y) ≡ dealt r (h ∷ hs) (o >>= λ us. p >>= λ vs. some (us ++ vs))
    unfolding deal_out
    taken none p l u v = rw (u, and-false (asks.starts h r && true && asks.fits h))
    taken (some us) none {x} l u v = rw v (and-false (asks.starts h r && true && asks.fits h && x))
    taken (some us) (some vs) l u v =
        let q : length us ≡ asks.rows h = l us refl in
        rw (
          u,
          v,
          le-leb (asks.rows h) (length (us ++ vs)) (omega (arith, length-append us vs)),
          take_at us vs (asks.rows h) q,
          drop_at us vs (asks.rows h) q,
        ) (with_first (asks.starts h r) us (deal_out asks entry (r + asks.rows h) hs vs))

  take-up : (r : ℕ) (hs : List A) (ts : List (List ℕ)) → take_up asks good r hs ts ≡ dealt r hs (each_of row_at ts)
  unfolding take_up each_of deal_out every
  take-up r [] [] = refl
  take-up r [] (t ∷ ts) = ne_eqb (suc (length ts)) 0 (λ e. omega arith) ∙ none_left r (row_at t) (each_of row_at ts)
  take-up r (h ∷ hs) ts = by (take-up (r + n) hs (drop n ts)) (leb n (length ts)) refl
    where
      n : ℕ
      n = asks.rows h

      x : Bool
      x = rows_fit good (take n ts) 0

      y : Bool
      y = take_up asks good (r + n) hs (drop n ts)

      by : y ≡ dealt (r + n) hs (each_of row_at (drop n ts)) → (b : Bool) → leb n (length ts) ≡ b
          → (asks.starts h r && b && asks.fits h && x && y) ≡ dealt r (h ∷ hs) (each_of row_at ts)
      by later false e =
          let few : length ts < n = leb-false n (length ts) e in
          rw (and-false (asks.starts h r)) (too_few r h hs (each_of row_at ts) (λ rs f. omega (arith, each-of-length row_at ts rs f)))
      by later true e =
          let enough : n ≤ length ts = leb-true n (length ts) e in
          taken r h hs (each_of row_at (take n ts)) (each_of row_at (drop n ts))
          (λ us f. each-of-length row_at (take n ts) us f ∙ length-take-le n ts enough)
          (rows-law good (take n ts) 0) later
          ∙ ap (dealt r (h ∷ hs)) (sym (each-of-append row_at (take n ts) (drop n ts)) ∙ ap (each_of row_at) (take-append-drop n ts))

-- CONSTRAINTS, AND VALIDATETRANS STATEMENTS

module _ (n : Totals) where
  -- a row is good, of so many components
  abbrev pub good : ℕ → Row → Bool
  good k r = fits_row k n.things n.attributes r

  abbrev constraint_with : ConstraintRecord → List Row → ConstraintEntry
  constraint_with h us = record { class = h.class; mask = h.mask; rows = us }

  abbrev relabel_with : RelabelRecord → List Row → RelabelEntry
  relabel_with h us = record { class = h.class; rows = us }

  assign-rows : (r : ℕ) (hs : List ConstraintRecord) (rs : List Row) → deal_out (asks_constraint n) constraint_with r hs rs ≡ assign_rows r hs rs
  unfolding deal_out assign_rows
  assign-rows r [] [] = refl
  assign-rows r [] (x ∷ xs) = refl
  assign-rows r (h ∷ hs) rs = rw (assign-rows (r + h.rows) hs (drop h.rows rs))

  assign-relabels : (r : ℕ) (hs : List RelabelRecord) (rs : List Row) → deal_out (asks_relabel n) relabel_with r hs rs ≡ assign_relabels hs rs
  unfolding deal_out assign_relabels
  assign-relabels r [] [] = refl
  assign-relabels r [] (x ∷ xs) = refl
  assign-relabels r (h ∷ hs) rs = rw (assign-relabels (r + h.rows) hs (drop h.rows rs))

  -- the test that goes statement by statement is that of the definition
  pub take-up-law : (hs : List ConstraintRecord) (ts : List (List ℕ)) → take_up (asks_constraint n) (good 6) 0 hs ts ≡ constraints_fit n hs ts
  take-up-law hs ts =
      take-up (asks_constraint n) (good 6) constraint_with (fits_constraint n) (λ h us. refl) 0 hs ts
      ∙ (λ i. passes (each_of row_at ts >>= λ rs. assign-rows 0 hs rs i) (every (fits_constraint n)))

  pub take-up-relabels : (hs : List RelabelRecord) (ts : List (List ℕ)) → take_up (asks_relabel n) (good 9) 0 hs ts ≡ relabels_fit n hs ts
  take-up-relabels hs ts =
      take-up (asks_relabel n) (good 9) relabel_with (fits_relabel n) (λ h us. refl) 0 hs ts
      ∙ (λ i. passes (each_of row_at ts >>= λ rs. assign-relabels 0 hs rs i) (every (fits_relabel n)))

-- by the totals of the declarations, it is what is asked of a sound table
pub constraints-good : (ds : List Declaration) (hs : List ConstraintRecord) (ts : List (List ℕ))
    → constraints_fit (totals_of ds) hs ts ≡ passes (each_of row_at ts >>= λ rs. assign_rows 0 hs rs) (every (good_constraint ds))
constraints-good ds hs ts = refl

pub relabels-good : (ds : List Declaration) (hs : List RelabelRecord) (ts : List (List ℕ))
    → relabels_fit (totals_of ds) hs ts ≡ passes (each_of row_at ts >>= λ rs. assign_relabels hs rs) (every (good_relabel ds))
relabels-good ds hs ts = refl
