-- The fields of the record that starts at a place, each by its own place in the table. Assumes nothing.
use Prim.Native.Nat.{ℕ, ◌+◌}
use native.Mathlib.Nat.{add-zero}
use mathlib.Core.Path.{◌≡◌, ap, ◌∙◌}
use mathlib.Core.List.{List}
use lib.ListN.{get_or, take, drop}
use lib.Seq.{get_or-drop, drop-drop}
use Rattle.policy.specs.Basics.{unle}
use Rattle.policy.specs.Rows.{row}
use Rattle.policy.specs.Sound.{constraint_at, relabel_at}
use Rattle.table_reader.specs.Records.{row_at}

number-field : (w k at : ℕ) (t : List ℕ) → unle (take w (drop k (drop at t))) ≡ unle (take w (drop (at + k) t))
number-field w k at t = ap (λ (l : List ℕ). unle (take w l)) (drop-drop k at t)

pub row-fields : (at : ℕ) (t : List ℕ) → row_at (drop at t) ≡ row (get_or t at 0) (get_or t (at + 1) 0) (get_or t (at + 2) 0) (unle (take 2 (drop (at + 4) t)))
row-fields at t =
    let first : get_or (drop at t) 0 0 ≡ get_or t at 0 = get_or-drop at t 0 0 ∙ ap (λ (k : ℕ). get_or t k 0) (add-zero at) in
    λ i. row (first i) (get_or-drop at t 1 0 i) (get_or-drop at t 2 0 i) (number-field 2 4 at t i)

pub constraint-fields : (at : ℕ) (t : List ℕ) → constraint_at (drop at t) ≡ record {
  class = unle (take 2 (drop at t));
  mask = unle (take 4 (drop (at + 2) t));
  first = unle (take 2 (drop (at + 6) t));
  rows = unle (take 2 (drop (at + 8) t));
}
constraint-fields at t = λ i. record {
  class = unle (take 2 (drop at t));
  mask = number-field 4 2 at t i;
  first = number-field 2 6 at t i;
  rows = number-field 2 8 at t i;
}

pub relabel-fields : (at : ℕ) (t : List ℕ) → relabel_at (drop at t) ≡ record { class = unle (take 2 (drop at t)); rows = unle (take 2 (drop (at + 2) t)) }
relabel-fields at t = λ i. record { class = unle (take 2 (drop at t)); rows = number-field 2 2 at t i }
