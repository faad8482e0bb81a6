-- The words of the index: the front of a name, what a word holds after a store, and what a store leaves as it was. Assumes nothing.
use mathlib.Core.Path.{◌≡◌, sym, ap, subst, ◌∙◌}
use mathlib.Core.List.{List}
use Prim.Native.Nat.{ℕ, ◌+◌, ◌-◌, ◌*◌, ◌^◌, ◌≤◌, ◌<◌}
use native.Mathlib.Decide.{dec_lt}
use native.Mathlib.Omega.{arith}
use lib.ListN.{length, take, drop}
use lib.Seq.{take_all}
use Rattle.byte_slices.specs.Parts.{part, put}
use Rattle.byte_slices.proofs.PartLaws.{length-part-le, length-put, part-put-same, part-put-before, part-put-after}
use Rattle.policy.specs.Basics.{le, unle}
use Rattle.table_laws.proofs.LittleEndian.{le-length, unle-le}
use Rattle.little_endian.proofs.WidthLaws.{unle-split}
use Rattle.name_index.specs.Index.{word_in, put_word, index_bytes}
use Rattle.symbols.specs.Section.{name_bytes}

-- ---- the front of a name v, whose first eight bytes are w: the number of w, or of its first four and of the at most four after them

module _ (v w : List ℕ) (i : w ≡ part v 0 8) where
  pub front-short : length w ≤ 8
  front-short = subst (λ (l : List ℕ). length l ≤ 8) (sym i) (length-part-le v 0 8)

  pub front-is : unle w ≡ unle (take 8 v)
  unfolding part
  front-is = ap unle i

  pub front-joins : 4 ≤ length w → unle (take 4 w) + 4294967296 * unle (take (length w - 4) (drop 4 w)) ≡ unle (take 8 v)
  front-joins h = sym (unle-split 4 (length w - 4) 0 w) ∙ ap unle (take_all (4 + (length w - 4)) w (omega arith)) ∙ front-is

-- ---- a store

-- memory that is the same before the index, and of the same length
pub record Kept (t u : List ℕ) : Type 0 where
  pub long : length u ≡ length t
  pub front : (p w : ℕ) → p + w ≤ name_bytes → part u p w ≡ part t p w

pub kept_on : {t u v : List ℕ} → Kept t u → Kept u v → Kept t v
kept_on h g = record { long = g.long ∙ h.long; front = λ p w l. g.front p w l ∙ h.front p w l }

module _ (t : List ℕ) (k n : ℕ) (below : k < 6445) (room : index_bytes ≤ length t) where
  fits : name_bytes + 8 * k + length (le 8 n) ≤ length t
  fits = omega (arith, le-length 8 n)

  pub word_kept : Kept t (put_word t k n)
  unfolding put_word
  word_kept = record {
    long = length-put t (name_bytes + 8 * k) (le 8 n) fits;
    front = λ p w l. part-put-before t (name_bytes + 8 * k) (le 8 n) fits p w (omega arith);
  }

  pub word-here : n < 256 ^ 8 → word_in (put_word t k n) k ≡ n
  unfolding put_word word_in
  word-here h =
      ap unle (ap (part (put t (name_bytes + 8 * k) (le 8 n)) (name_bytes + 8 * k)) (sym (le-length 8 n)) ∙ part-put-same t (name_bytes + 8 * k) (le 8 n) fits)
      ∙ unle-le 8 n h

  pub word-other : (j : ℕ) → (j ≡ k → ⊥) → word_in (put_word t k n) j ≡ word_in t j
  unfolding put_word word_in
  word-other j d = by (dec_lt j k)
    where
      by : Dec (j < k) → unle (part (put t (name_bytes + 8 * k) (le 8 n)) (name_bytes + 8 * j) 8) ≡ unle (part t (name_bytes + 8 * j) 8)
      by (yes h) = ap unle (part-put-before t (name_bytes + 8 * k) (le 8 n) fits (name_bytes + 8 * j) 8 (omega arith))
      by (no h) = ap unle (part-put-after t (name_bytes + 8 * k) (le 8 n) fits (name_bytes + 8 * j) 8 (omega (arith, le-length 8 n)))

-- the bytes before the index
pub kept-take : {t u : List ℕ} → Kept t u → take name_bytes u ≡ take name_bytes t
unfolding part
kept-take h = h.front 0 name_bytes (omega arith)
