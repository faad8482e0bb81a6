-- One row: what the tests of its fields and of the depth that it leaves say. Rows one after the other in a table: the rows that are left pass
-- where all do, and one law for each way through a turn. Assumes nothing.
use Prim.Native.Nat.{ℕ, zero, suc, pred, ◌+◌, ◌-◌, ◌/◌, ◌^◌, ◌<◌, ◌≤◌}
use native.Mathlib.Nat.{div-eq_of_lt, lt_of_lt_of_le, pow-le-pow_right, one-le-pow, le-div_iff_mul-le}
use native.Mathlib.Omega.{arith}
use mathlib.Core.Path.{◌≡◌, refl, sym, ap, ap₂, ◌∙◌}
use mathlib.Core.Bool.{Bool, true, false, ◌&&◌, cond}
use mathlib.Core.List.{List}
use lib.Dec.{eqb, leb, ltb}
use lib.ListN.{get_or, drop}
use Rattle.std.specs.Prelude.{Some, None}
use borrow.Author.Tests.{eq-eqb, ne_eqb, lt-ltb, ltb-true, ltb-false}
use Rattle.policy.specs.Maxima.{max_stack}
use Rattle.policy.specs.Rows.{Row, after}
use Rattle.policy.specs.Sound.{pieces}
use Rattle.table_reader.specs.Records.{row_at}
use Rattle.sound_constraints.specs.SoundRows.{kept, rows_fit}
use Rattle.sound_constraints.proofs.PieceLaws.{pieces_step, pieces_none, row-front, row-fourth}

-- THE MASK

-- 32 bits are below 2 to the power of 32 and more
pub mask_below : (m k : ℕ) → m < 4294967296 → 32 ≤ k → ltb m (2 ^ k) ≡ true
mask_below m k small h = lt-ltb m (2 ^ k) (lt_of_lt_of_le small (pow-le-pow_right {n = 2} (omega arith) h))

-- nothing is left of the number after a shift exactly if it was below that power
pub mask-shifted : (m k : ℕ) → eqb (m / 2 ^ k) 0 ≡ ltb m (2 ^ k)
mask-shifted m k = by (ltb m (2 ^ k)) refl
  where
    power : 0 < 2 ^ k
    power = one-le-pow k 2 (omega arith)

    by : (b : Bool) → ltb m (2 ^ k) ≡ b → eqb (m / 2 ^ k) 0 ≡ b
    by true e = ap (λ (n : ℕ). eqb n 0) (div-eq_of_lt (ltb-true m (2 ^ k) e))
    by false e =
        let one : 1 ≤ m / 2 ^ k = (le-div_iff_mul-le power).1 (omega (arith, ltb-false m (2 ^ k) e)) in
        ne_eqb (m / 2 ^ k) 0 (λ z. omega arith)

-- THE DEPTH

-- a comparison leaves one more, `and` and `or` one less
pub after-comparison : (r : Row) → 2 < r.kind → (d : ℕ) → after r d ≡ d + 1
after-comparison r h d =
    rw (ne_eqb r.kind 0 (λ e. omega arith), ne_eqb r.kind 1 (λ e. omega arith), ne_eqb r.kind 2 (λ e. omega arith)) (omega arith)

pub after_two : (r : Row) → (r.kind ≡ 0 → ⊥) → r.kind ≤ 2 → (d : ℕ) → after r d ≡ d - 1
after_two r n h d = by r.kind n h
  where
    less : pred d ≡ d - 1
    less = omega arith

    by : (k : ℕ) → (k ≡ 0 → ⊥) → k ≤ 2 → cond (eqb k 0) d (cond (eqb k 1) (pred d) (cond (eqb k 2) (pred d) (suc d))) ≡ d - 1
    by zero n h = absurd (n refl)
    by (suc zero) n h = less
    by (suc (suc zero)) n h = less
    by (suc (suc (suc k))) n h = absurd (omega arith)

-- the test of a depth, by what is kept of it
pub kept-none : (d : ℕ) → None ≡ kept d → (leb 1 d && leb d max_stack) ≡ false
kept-none d e = by (leb 1 d && leb d max_stack) e
  where
    by : (b : Bool) → None ≡ cond b (Some d) None → b ≡ false
    by false q = refl
    by true q = absurd (cc)

pub kept-some : (d k : ℕ) → Some k ≡ kept d → ((leb 1 d && leb d max_stack) ≡ true) × (k ≡ d)
kept-some d k e = by (leb 1 d && leb d max_stack) e
  where
    by : (b : Bool) → Some k ≡ cond b (Some d) None → (b ≡ true) × (k ≡ d)
    by false q = absurd (cc)
    by true q = (refl, cc)

-- ROW BY ROW

-- a row at a place and those after it, from depth d on, pass where the whole does
pub record RowTurn (good : Row → Bool) (t : List ℕ) (whole : Bool) (at d : ℕ) (later : List (List ℕ)) (r : Row) : Type 0 where
  pub tests : (eqb (get_or t (at + 3) 0) 0 && good r && (leb 1 (after r d) && leb (after r d) max_stack) && rows_fit good later (after r d)) ≡ whole

module _ (good : Row → Bool) (t : List ℕ) {whole : Bool} (at n d : ℕ) (left : rows_fit good (pieces n 6 (drop at t)) d ≡ whole) where
  pub row-turn : (next m : ℕ) → n ≡ m + 1 → next ≡ at + 6 → (r : Row) → r ≡ row_at (drop at t) → RowTurn good t whole at d (pieces m 6 (drop next t)) r
  unfolding rows_fit
  row-turn next m p q r read = record {
    tests =
        ap₂ {C = Bool} (λ (r : Row) (b : ℕ). eqb b 0 && good r && (leb 1 (after r d) && leb (after r d) max_stack) && rows_fit good (pieces m 6 (drop next t)) (after r d))
        (read ∙ sym (row-front (drop at t))) (sym (row-fourth at t))
        ∙ (rw (pieces_step 6 t at next n m p q) at left);
  }

  pub rows_end : n ≡ 0 → eqb d 1 ≡ whole
  unfolding rows_fit
  rows_end e = rw (pieces_none 6 t at n e) at left

module _ {good : Row → Bool} {t : List ℕ} {whole : Bool} {at d : ℕ} {later : List (List ℕ)} {r : Row} (turn : RowTurn good t whole at d later r) where
  pub rows-fourth : (get_or t (at + 3) 0 ≡ 0 → ⊥) → false ≡ whole
  rows-fourth h = rw (ne_eqb (get_or t (at + 3) 0) 0 h) at turn.tests

  module _ (zero : get_or t (at + 3) 0 ≡ 0) where
    pub rows-bad : good r ≡ false → false ≡ whole
    rows-bad g = rw (eq-eqb (get_or t (at + 3) 0) 0 zero, g) at turn.tests

    pub rows-deep : good r ≡ true → None ≡ kept (after r d) → false ≡ whole
    rows-deep g k = rw (eq-eqb (get_or t (at + 3) 0) 0 zero, g, kept-none (after r d) k) at turn.tests

    pub rows_next : good r ≡ true → (k : ℕ) → Some k ≡ kept (after r d) → rows_fit good later k ≡ whole
    rows_next g k e =
        let same = kept-some (after r d) k e in
        rw same.1 (rw (eq-eqb (get_or t (at + 3) 0) 0 zero, g, same.0) at turn.tests)
