-- Statements asked one by one how many rows they take up: they take them up as the list of their records does, those that are left pass where all do,
-- and there is one law for each way through a turn. Assumes nothing.
use Prim.Native.Nat.{ℕ, zero, suc, ◌+◌, ◌-◌, ◌*◌, ◌<◌, ◌≤◌}
use native.Mathlib.Omega.{arith}
use mathlib.Core.Path.{◌≡◌, refl, sym, ap, ap₂, ◌∙◌}
use mathlib.Core.Bool.{Bool, true, false, ◌&&◌, cond, and-true, and-false}
use mathlib.Core.List.{List, ◌∷◌}
use lib.Dec.{eqb, leb}
use lib.ListN.{length, take, drop}
use lib.Seq.{drop-drop}
use borrow.Author.Tests.{eq-eqb, ne_eqb, eqb-true, eqb-false, le-leb, lt-leb}
use Rattle.std.specs.Prelude.{Option, Some, None}
use Rattle.policy.specs.Basics.{each}
use Rattle.policy.specs.Rows.{Row}
use Rattle.policy.specs.Sound.{pieces}
use Rattle.sound_constraints.specs.SoundRows.{answers, rows_fit, taken_up, AskedOf, take_up, rows_asked}
use Rattle.sound_constraints.proofs.PieceLaws.{pieces-length, pieces-take, pieces-drop}

-- records of w bytes from a place on, each of which is read from its own bytes alone
module _ {A : Type 0} (w : ℕ) (read : List ℕ → A) (front : (t : List ℕ) → read (take w t) ≡ read t) (asks : AskedOf A) (good : Row → Bool)
    (t : List ℕ) (from : ℕ) where
  -- how many rows the record of a number takes up from a row on
  abbrev pub asked_at : ℕ → ℕ → Option ℕ
  asked_at k r = rows_asked asks (read (drop (from + w * k) t)) r

  -- the tests of a record in another order
  turned : (s f : Bool) (m : ℕ) (l x y : ℕ → Bool) (z : Bool) → y m ≡ z
      → answers (cond (s && f) (Some m) None) (λ m. l m && x m && y m) ≡ (s && l m && f && x m && z)
  turned false f m l x y z e = refl
  turned true false m l x y z e = rw (and-false (l m))
  turned true true m l x y z e = rw (and-true (l m)) (ap (λ (q : Bool). l m && x m && q) e)

  -- asked one by one, they take up the rows as the list of them does
  pub taken-up : (n k r : ℕ) (ts : List (List ℕ)) → taken_up asked_at good k n r ts ≡ take_up asks good r (each read (pieces n w (drop (from + w * k) t))) ts
  unfolding taken_up take_up pieces each
  taken-up zero k r ts = refl
  taken-up (suc n) k r ts =
      turned (asks.starts h r) (asks.fits h) (asks.rows h) (λ m. leb m (length ts)) (λ m. rows_fit good (take m ts) 0)
      (λ m. taken_up asked_at good (k + 1) n (r + m) (drop m ts)) _ (taken-up n (k + 1) (r + asks.rows h) (drop (asks.rows h) ts))
      ∙ ap₂ {C = Bool} (λ (h : A) (u : List ℕ). take_up asks good r (h ∷ each read (pieces n w u)) ts) (sym (front (drop (from + w * k) t))) (sym further)
    where
      h : A
      h = read (drop (from + w * k) t)

      further : drop w (drop (from + w * k) t) ≡ drop (from + w * (k + 1)) t
      further = drop-drop w (from + w * k) t ∙ ap (λ (i : ℕ). drop i t) (omega arith)

-- so many statements are left from statement k on, and m rows at a place from row r on, and they take these up where the whole passes
module _ (f : ℕ → ℕ → Option ℕ) (good : Row → Bool) (t : List ℕ) {whole : Bool} (k n r at m : ℕ) (left : taken_up f good k n r (pieces m 6 (drop at t)) ≡ whole) where
  pub taken-end : (rows : ℕ) → r ≤ rows → m ≡ rows - r → n ≡ 0 → eqb r rows ≡ whole
  unfolding taken_up
  taken-end rows l e z = by (eqb r rows) refl ∙ (rw (z, pieces-length m 6 (drop at t)) at left)
    where
      by : (b : Bool) → eqb r rows ≡ b → b ≡ eqb m 0
      by true q = sym (eq-eqb m 0 (omega (arith, eqb-true r rows q)))
      by false q = sym (ne_eqb m 0 (λ z. eqb-false r rows q (omega arith)))

  module _ (j : ℕ) (p : n ≡ j + 1) where
    more_left : n ≡ suc j
    more_left = omega arith

    pub taken-none : None ≡ f k r → false ≡ whole
    unfolding taken_up
    taken-none e = rw (more_left, ← e) at left

    module _ (q : ℕ) (e : Some q ≡ f k r) where
      pub taken-many : m < q → false ≡ whole
      unfolding taken_up
      taken-many l = rw (more_left, ← e, pieces-length m 6 (drop at t), lt-leb q m l) at left

      module _ (enough : q ≤ m) where
        pub taken-rows : rows_fit good (pieces q 6 (drop at t)) 0 ≡ false → false ≡ whole
        unfolding taken_up
        taken-rows b = rw (more_left, ← e, pieces-length m 6 (drop at t), le-leb q m enough, pieces-take q m 6 (drop at t) enough, b) at left

        pub taken_next : rows_fit good (pieces q 6 (drop at t)) 0 ≡ true → (place l : ℕ) → place ≡ at + 6 * q → l ≡ m - q
            → taken_up f good (k + 1) j (r + q) (pieces l 6 (drop place t)) ≡ whole
        unfolding taken_up
        taken_next b place l g d =
            let sum : at + q * 6 ≡ place = omega arith in
            let further : drop (q * 6) (drop at t) ≡ drop place t = drop-drop (q * 6) at t ∙ ap (λ (i : ℕ). drop i t) sum in
            rw (d, ← further, ← pieces-drop q m 6 (drop at t) enough)
            (rw (more_left, ← e, pieces-length m 6 (drop at t), le-leb q m enough, pieces-take q m 6 (drop at t) enough, b) at left)
