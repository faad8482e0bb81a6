-- Granting row by row: what the body is when the rows below an offset are done. A row whose number is in us gains rs, another one stays.
-- Where us has one number alone, only its row changes. Assumes nothing.
use mathlib.Core.Path.{◌≡◌, refl, sym, ap, ap₂, ◌∙◌}
use mathlib.Core.Bool.{Bool, true, false, ◌&&◌, ◌||◌, or-false, and-false}
use mathlib.Core.List.{List, []}
use Prim.Native.Nat.{ℕ, zero, suc, ◌+◌, ◌-◌, ◌*◌, ◌/◌, ◌%◌, ◌≤◌, ◌<◌, min}
use native.Mathlib.Nat.{add-zero, mul-zero, mul_comm, mul_assoc, mul-suc, mul-le-mul, mul-le-mul_left}
use native.Mathlib.Numerals.{add-one}
use native.Mathlib.Decide.{dec_lt}
use native.Mathlib.Omega.{arith}
use lib.Arith.{digits_div, digits_mod}
use lib.Dec.{eqb, ltb}
use lib.ListN.{length, get_or, take}
use lib.Seq.{get_or-take}
use borrow.Author.Tests.{lt-ltb, le-ltb, eq-eqb, ne_eqb}
use Rattle.bitset.specs.Sets.{bit, member, set_of, union_of}
use Rattle.byte_slices.specs.Parts.{part, put}
use Rattle.bitset.specs.Relations.{granted}
use Rattle.bitset.proofs.SetLaws.{set-eq, set_of-ext, length-set_of, map-set_of, member-past, member-one, length_union}
use Rattle.byte_slices.proofs.PartLaws.{length_part, length-part-le, small-part, part-part, put_same, put-part}
use Rattle.bitset.proofs.SetParts.{part-set_of, put-set_of}

-- number n of row u, and back
pub row_of : (w u n : ℕ) → n < 8 * w → (8 * (w * u) + n) / (8 * w) ≡ u
row_of w u n h = ap (λ (x : ℕ). (x + n) / (8 * w)) (sym (mul_comm u (8 * w) ∙ mul_assoc 8 w u)) ∙ digits_div u h

pub place_of : (w u n : ℕ) → n < 8 * w → (8 * (w * u) + n) % (8 * w) ≡ n
place_of w u n h = ap (λ (x : ℕ). (x + n) % (8 * w)) (sym (mul_comm u (8 * w) ∙ mul_assoc 8 w u)) ∙ digits_mod u h

-- the next row starts w bytes on, and fits where there is one
pub row_next : (w u : ℕ) → w * (u + 1) ≡ w * u + w
row_next w u = rw add-one (mul-suc w u)

pub row_fits : (w u rows : ℕ) → u < rows → w * u + w ≤ w * rows
row_fits w u rows h = omega (arith, mul-suc w u, mul-le-mul_left w h)

-- the first w bytes have the same numbers, as far as they reach
pub member-take : (w : ℕ) (s : List ℕ) (n : ℕ) → n < 8 * w → member (take w s) n ≡ member s n
unfolding member
member-take w s n h = ap (λ (b : ℕ). bit b (n % 8)) (get_or-take w s (n / 8) 0 (omega arith))

-- what a number of the body gains
abbrev pub due : ℕ → List ℕ → List ℕ → ℕ → Bool
due w us rs m = member us (m / (8 * w)) && member (take w rs) (m % (8 * w))

-- whether m is in where the rows below the offset at are done
abbrev rule : ℕ → List ℕ → List ℕ → List ℕ → ℕ → ℕ → Bool
rule w body us rs at m = member body m || (ltb m (8 * at) && due w us rs m)

unfoldable pub so_far : ℕ → List ℕ → List ℕ → List ℕ → ℕ → List ℕ
so_far w body us rs at = set_of (length body) (rule w body us rs at)

module _ (w : ℕ) (body us rs : List ℕ) where
  done : (at m : ℕ) → m < 8 * at → rule w body us rs at m ≡ (member body m || due w us rs m)
  done at m h = ap (λ (b : Bool). member body m || (b && due w us rs m)) (lt-ltb m (8 * at) h)

  undone : (at m : ℕ) → 8 * at ≤ m → rule w body us rs at m ≡ member body m
  undone at m h = ap (λ (b : Bool). member body m || (b && due w us rs m)) (le-ltb m (8 * at) h) ∙ or-false (member body m)

  due_in : (u n : ℕ) → n < 8 * w → due w us rs (8 * (w * u) + n) ≡ (member us u && member rs n)
  due_in u n h =
      ap₂ (λ (x y : ℕ). member us x && member (take w rs) y) (row_of w u n h) (place_of w u n h)
      ∙ ap (λ (b : Bool). member us u && b) (member-take w rs n h)

  pub length-so_far : (at : ℕ) → length (so_far w body us rs at) ≡ length body
  unfolding so_far
  length-so_far at = length-set_of (length body) (rule w body us rs at)

  pub so_far-none : ((i : ℕ) → get_or body i 0 < 256) → body ≡ so_far w body us rs 0
  unfolding so_far
  so_far-none small = set-eq body (rule w body us rs 0) small (λ n l. sym (undone 0 n (omega arith)))

  pub so_far-all : (at : ℕ) → length body ≤ at → so_far w body us rs at ≡ granted w body us rs
  unfolding so_far granted
  so_far-all at h = set_of-ext (length body) (rule w body us rs at) (λ m. member body m || due w us rs m) (λ m l. done at m (omega arith))

  -- rows of no bytes gain nothing
  pub granted-none : ((i : ℕ) → get_or body i 0 < 256) → w ≡ 0 → body ≡ granted w body us rs
  unfolding granted
  granted-none small z =
      set-eq body (λ m. member body m || due w us rs m) small (λ m l. sym (ap (λ (b : Bool). member body m || b) (nothing m) ∙ or-false (member body m)))
    where
      nothing : (m : ℕ) → due w us rs m ≡ false
      nothing m =
          ap (λ (v : ℕ). member us (m / (8 * w)) && member (take v rs) (m % (8 * w))) z
          ∙ ap (λ (b : Bool). member us (m / (8 * w)) && b) (member-past [] (m % (8 * w)) (omega arith)) ∙ and-false (member us (m / (8 * w)))

  -- a row that is not in us has nothing due
  so_far-skip : (u : ℕ) → member us u ≡ false → so_far w body us rs (w * u) ≡ so_far w body us rs (w * (u + 1))
  unfolding so_far
  so_far-skip u e =
      set_of-ext (length body) (rule w body us rs (w * u)) (rule w body us rs (w * (u + 1))) (λ m l. at m (dec_lt m (8 * (w * u))) (dec_lt m (8 * (w * (u + 1)))))
    where
      none : (m : ℕ) → 8 * (w * u) ≤ m → m < 8 * (w * (u + 1)) → due w us rs m ≡ false
      none m a b =
          let s : m ≡ 8 * (w * u) + (m - 8 * (w * u)) = omega arith in
          ap (due w us rs) s ∙ due_in u (m - 8 * (w * u)) (omega (arith, row_next w u)) ∙ ap (λ (x : Bool). x && member rs (m - 8 * (w * u))) e

      at : (m : ℕ) → Dec (m < 8 * (w * u)) → Dec (m < 8 * (w * (u + 1))) → rule w body us rs (w * u) m ≡ rule w body us rs (w * (u + 1)) m
      at m (yes a) d = done (w * u) m a ∙ sym (done (w * (u + 1)) m (omega (arith, row_next w u)))
      at m (no a) (yes b) =
          undone (w * u) m (omega arith)
          ∙ sym (done (w * (u + 1)) m b ∙ ap (λ (x : Bool). member body m || x) (none m (omega arith) b) ∙ or-false (member body m))
      at m (no a) (no b) = undone (w * u) m (omega arith) ∙ sym (undone (w * (u + 1)) m (omega arith))

  -- row u, or as many of its bytes as the body has
  module _ (u v : ℕ) (inside : w * u ≤ length body) (reach : v ≡ min w (length body - w * u)) where
    -- they are the whole row, or the body ends after them
    row-end : so_far w body us rs (w * u + v) ≡ so_far w body us rs (w * (u + 1))
    row-end = by (dec_lt (w * u + v) (length body))
      where
        by : Dec (w * u + v < length body) → so_far w body us rs (w * u + v) ≡ so_far w body us rs (w * (u + 1))
        by (yes l) = let next : w * u + v ≡ w * (u + 1) = omega (arith, row_next w u) in ap (so_far w body us rs) next
        by (no l) = so_far-all (w * u + v) (omega arith) ∙ sym (so_far-all (w * (u + 1)) (omega (arith, row_next w u)))

    -- a row that is in us gains rs
    pub so_far-row : member us u ≡ true
        → put (so_far w body us rs (w * u)) (w * u) (union_of (part (so_far w body us rs (w * u)) (w * u) v) rs) ≡ so_far w body us rs (w * (u + 1))
    unfolding so_far union_of
    so_far-row e =
        let o = w * u in
        let f = rule w body us rs o in
        let fits : o + v ≤ length body = omega arith in
        ap (λ (s : List ℕ). put (set_of (length body) f) o s)
        (ap (λ (p : List ℕ). union_of p rs) (part-set_of (length body) o v f fits) ∙ map-set_of (λ n x. x || member rs n) v (λ n. f (8 * o + n)))
        ∙ put-set_of (length body) o v f (λ n. f (8 * o + n) || member rs n) (rule w body us rs (o + v)) fits
        (λ n l. done (o + v) n (omega arith) ∙ sym (done o n l))
        (λ n l. done (o + v) (8 * o + n) (omega arith)
        ∙ ap (λ (x : Bool). member body (8 * o + n) || x) (due_in u n (omega arith) ∙ ap (λ (x : Bool). x && member rs n) e)
        ∙ ap (λ (x : Bool). x || member rs n) (sym (undone o (8 * o + n) (omega arith))))
        (λ n l. undone (o + v) n l ∙ sym (undone o n (omega arith)))
        ∙ row-end

  -- rows that are not in us, k of them from row a on
  pub so_far-skips : (a k : ℕ) → ((n : ℕ) → a ≤ n → n < a + k → member us n ≡ false) → so_far w body us rs (w * a) ≡ so_far w body us rs (w * (a + k))
  so_far-skips a zero h = rw add-zero
  so_far-skips a (suc k) h =
      let next : a + k + 1 ≡ a + suc k = omega arith in
      so_far-skips a k (λ n p q. h n p (omega arith)) ∙ so_far-skip (a + k) (h (a + k) (omega arith) (omega arith))
      ∙ ap (λ (n : ℕ). so_far w body us rs (w * n)) next

  -- only u is in us
  module _ (small : (i : ℕ) → get_or body i 0 < 256) (u : ℕ) (one : (n : ℕ) → member us n ≡ eqb n u) where
    other : (n : ℕ) → (n ≡ u → ⊥) → member us n ≡ false
    other n ne = one n ∙ ne_eqb n u ne

    -- the rows before row u are as they were
    before-row : body ≡ so_far w body us rs (w * u)
    before-row =
        let from : 0 + u ≡ u = omega arith in
        so_far-none small ∙ ap (so_far w body us rs) (sym (mul-zero w))
        ∙ so_far-skips 0 u (λ n p q. other n (λ e. omega arith)) ∙ ap (λ (n : ℕ). so_far w body us rs (w * n)) from

    -- and so are those after it
    behind-row : so_far w body us rs (w * (u + 1)) ≡ granted w body us rs
    behind-row = by (dec_lt 0 w)
      where
        by : Dec (0 < w) → so_far w body us rs (w * (u + 1)) ≡ granted w body us rs
        by (yes p) =
            let long = mul-le-mul {n₁ = 1} {m₁ = length body} {n₂ = w} {m₂ = u + 1 + length body} p (omega arith) in
            so_far-skips (u + 1) (length body) (λ n p q. other n (λ e. omega arith)) ∙ so_far-all (w * (u + 1 + length body)) (omega (arith, long))
        by (no p) =
            let none : w * (u + 1) ≡ w * u = omega (arith, row_next w u) in
            ap (so_far w body us rs) none ∙ sym before-row ∙ granted-none small (omega arith)

    -- row u gains rs
    granted-row : (v : ℕ) → w * u ≤ length body → v ≡ min w (length body - w * u)
        → put body (w * u) (union_of (part body (w * u) v) rs) ≡ granted w body us rs
    granted-row v h e =
        ap (λ (b : List ℕ). put b (w * u) (union_of (part b (w * u) v) rs)) before-row ∙ so_far-row u v h e (one u ∙ eq-eqb u u refl) ∙ behind-row

    -- or lies past the end of the body
    granted-past : length body ≤ w * u → body ≡ granted w body us rs
    granted-past h = before-row ∙ so_far-all (w * u) h

-- the same for the body that is in size bytes of a table, where us is the set of u alone, x bytes wide
module _ (w x : ℕ) (t rs : List ℕ) (o size : ℕ) (small : (i : ℕ) → get_or t i 0 < 256) (u : ℕ) (fits : u < 8 * x) where
  pub row-at : (v : ℕ) → w * u ≤ length (part t o size) → v ≡ min w (length (part t o size) - w * u)
      → put t (o + w * u) (union_of (part t (o + w * u) v) rs) ≡ put t o (granted w (part t o size) (set_of x (λ n. eqb n u)) rs)
  row-at v h e =
      let body = part t o size in
      let row = part body (w * u) v in
      let same : row ≡ part t (o + w * u) v = part-part t o size (w * u) v (omega (arith, length-part-le t o size)) in
      let long : length (union_of row rs) ≡ v = length_union row rs ∙ length_part body (w * u) v (omega arith) in
      ap (λ (s : List ℕ). put t (o + w * u) (union_of s rs)) (sym same) ∙ sym (put-part t o size (w * u) (union_of row rs) (omega arith))
      ∙ ap (put t o) (granted-row w body (set_of x (λ n. eqb n u)) rs (small-part t o size small) u (member-one x u fits) v h e)

  pub past-at : length (part t o size) ≤ w * u → t ≡ put t o (granted w (part t o size) (set_of x (λ n. eqb n u)) rs)
  past-at h =
      sym (put_same t o size)
      ∙ ap (put t o) (granted-past w (part t o size) (set_of x (λ n. eqb n u)) rs (small-part t o size small) u (member-one x u fits) h)

pub length-granted : (w : ℕ) (body us rs : List ℕ) → length (granted w body us rs) ≡ length body
unfolding granted
length-granted w body us rs = length-set_of (length body) _
