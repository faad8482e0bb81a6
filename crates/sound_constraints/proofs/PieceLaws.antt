-- Parts of one width, one after the other in a table: cut one by one, cut short, and tested one by one. Assumes nothing.
use Prim.Native.Nat.{ℕ, zero, suc, ◌+◌, ◌-◌, ◌*◌, ◌<◌, ◌≤◌}
use native.Mathlib.Nat.{suc-mul, zero-mul, zero-add, suc-add, sub-zero}
use native.Mathlib.Omega.{arith}
use mathlib.Core.Path.{◌≡◌, refl, sym, ap, ap₂, ◌∙◌}
use mathlib.Core.Bool.{Bool, true, false, ◌&&◌}
use mathlib.Core.List.{List, [], ◌∷◌}
use lib.ListN.{length, get_or, take, drop}
use lib.Seq.{take-take, take-nil, drop-drop, get_or-drop}
use Rattle.byte_slices.specs.Parts.{part}
use Rattle.byte_slices.proofs.PartLaws.{part-part, get_d_part}
use Rattle.policy.specs.Basics.{each, every, unle}
use Rattle.policy.specs.Rows.{row}
use Rattle.policy.specs.Sound.{pieces, transition_at, constraint_at, relabel_at}
use Rattle.table_reader.specs.Records.{row_at}

-- CUT

module _ (w : ℕ) (t : List ℕ) where
  -- where one or more are left, the first is here, and the others a width further on
  pub pieces_step : (at next n m : ℕ) → n ≡ m + 1 → next ≡ at + w → pieces n w (drop at t) ≡ take w (drop at t) ∷ pieces m w (drop next t)
  unfolding pieces
  pieces_step at next n m e f =
      let s : n ≡ suc m = omega arith in
      rw (s, f) (ap {B = List (List ℕ)} (λ (l : List ℕ). take w (drop at t) ∷ pieces m w l) (drop-drop w at t))

  pub pieces_none : (at n : ℕ) → n ≡ 0 → pieces n w (drop at t) ≡ []
  unfolding pieces
  pieces_none at n e = rw e

pub pieces-length : (n w : ℕ) (t : List ℕ) → length (pieces n w t) ≡ n
unfolding pieces
pieces-length zero w t = refl
pieces-length (suc n) w t = ap suc (pieces-length n w (drop w t))

-- the first k of them, and those after
pub pieces-take : (k n w : ℕ) (t : List ℕ) → k ≤ n → take k (pieces n w t) ≡ pieces k w t
unfolding pieces
pieces-take zero n w t h = refl
pieces-take (suc k) zero w t h = absurd (omega arith)
pieces-take (suc k) (suc n) w t h = ap {B = List (List ℕ)} (λ r. take w t ∷ r) (pieces-take k n w (drop w t) (omega arith))

pub pieces-drop : (k n w : ℕ) (t : List ℕ) → k ≤ n → drop k (pieces n w t) ≡ pieces (n - k) w (drop (k * w) t)
unfolding pieces
pieces-drop zero n w t h = rw (sub-zero, zero-mul)
pieces-drop (suc k) zero w t h = absurd (omega arith)
pieces-drop (suc k) (suc n) w t h =
    let fewer : n - k ≡ suc n - suc k = omega arith in
    let further : w + k * w ≡ suc k * w = omega (arith, suc-mul k w) in
    pieces-drop k n w (drop w t) (omega arith) ∙ rw (drop-drop (k * w) w t, further, fewer)

-- the front of what is left is what is left of the front
pub drop-take : (w k : ℕ) (t : List ℕ) → drop w (take (w + k) t) ≡ take k (drop w t)
drop-take zero k t = rw (zero-add k)
drop-take (suc w) k [] = ap (drop (suc w)) (take-nil (suc w + k)) ∙ sym (take-nil k)
drop-take (suc w) k (x ∷ t) = rw (suc-add w k) (drop-take w k t)

-- they are the same where the bytes end after the last of them
pub pieces-within : (n w m : ℕ) (t : List ℕ) → n * w ≤ m → pieces n w (take m t) ≡ pieces n w t
unfolding pieces
pieces-within zero w m t h = refl
pieces-within (suc n) w m t h =
    ap₂ {C = List (List ℕ)} (λ x r. x ∷ r) (take-take w m t (omega (arith, suc-mul n w)))
    (ap (pieces n w) (cut (m - w) (omega (arith, suc-mul n w))) ∙ pieces-within n w (m - w) (drop w t) (omega (arith, suc-mul n w)))
  where
    cut : (k : ℕ) → w + k ≡ m → drop w (take m t) ≡ take k (drop w t)
    cut k e = ap (λ (n : ℕ). drop w (take n t)) (sym e) ∙ drop-take w k t

-- TESTED

module _ {A B : Type 0} (f : B → Bool) (g : A → B) where
  pub every-each : (xs : List A) → every f (each g xs) ≡ every (λ x. f (g x)) xs
  unfolding every each
  every-each [] = refl
  every-each (x ∷ xs) = ap (λ b. f (g x) && b) (every-each xs)

-- n parts are left, and their test is that of the whole
module _ (w : ℕ) (f : List ℕ → Bool) (t : List ℕ) {whole : Bool} (at n : ℕ) (left : every f (pieces n w (drop at t)) ≡ whole) where
  pub every-fails : 0 < n → f (take w (drop at t)) ≡ false → false ≡ whole
  unfolding every
  every-fails h e = rw (pieces_step w t at (at + w) n (n - 1) (omega arith) refl, e) at left

  pub every-goes-on : (next m : ℕ) → n ≡ m + 1 → next ≡ at + w → f (take w (drop at t)) ≡ true → every f (pieces m w (drop next t)) ≡ whole
  unfolding every
  every-goes-on next m p q e = rw (pieces_step w t at next n m p q, e) at left

  pub every-ends : n ≡ 0 → true ≡ whole
  unfolding every
  every-ends e = rw (pieces_none w t at n e) at left

-- RECORDS: each reads its own bytes alone

field : (n m w : ℕ) (t : List ℕ) → m + w ≤ n → take w (drop m (take n t)) ≡ take w (drop m t)
unfolding part
field n m w t h = part-part t 0 n m w h ∙ rw (zero-add m)

pub transition-front : (at : ℕ) (t : List ℕ)
    → transition_at (take 82 (drop at t)) ≡ record { roles = part t at 16; types = part t (at + 16) 64; class = get_or t (at + 80) 0; new = get_or t (at + 81) 0 }
unfolding part
transition-front at t = λ i. record {
  roles = take-take 16 82 (drop at t) (omega arith) i;
  types = part-part t at 82 16 64 (omega arith) i;
  class = (get_or-drop 80 (take 82 (drop at t)) 0 0 ∙ get_d_part t at 82 80 (omega arith)) i;
  new = (get_or-drop 81 (take 82 (drop at t)) 0 0 ∙ get_d_part t at 82 81 (omega arith)) i;
}

pub constraint-front : (t : List ℕ) → constraint_at (take 10 t) ≡ constraint_at t
constraint-front t = λ i. record {
  class = unle (take-take 2 10 t (omega arith) i);
  mask = unle (field 10 2 4 t (omega arith) i);
  first = unle (field 10 6 2 t (omega arith) i);
  rows = unle (field 10 8 2 t (omega arith) i);
}

pub relabel-front : (t : List ℕ) → relabel_at (take 4 t) ≡ relabel_at t
relabel-front t = λ i. record { class = unle (take-take 2 4 t (omega arith) i); rows = unle (field 4 2 2 t (omega arith) i) }

pub row-front : (t : List ℕ) → row_at (take 6 t) ≡ row_at t
unfolding part
row-front t = λ i. row (get_d_part t 0 6 0 (omega arith) i) (get_d_part t 0 6 1 (omega arith) i) (get_d_part t 0 6 2 (omega arith) i) (unle (field 6 4 2 t (omega arith) i))

pub row-fourth : (at : ℕ) (t : List ℕ) → get_or (take 6 (drop at t)) 3 0 ≡ get_or t (at + 3) 0
unfolding part
row-fourth at t = get_d_part t at 6 3 (omega arith)
