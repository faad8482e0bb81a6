-- Records that are one after the other in a table: read one by one, and read back where they were written. Said once over the width and
-- the record. Assumes nothing.
use Prim.Native.Nat.{ℕ, zero, suc, ◌+◌, ◌*◌, ◌<◌}
use native.Mathlib.Omega.{arith}
use mathlib.Core.Path.{◌≡◌, refl, sym, ap, ◌∙◌, subst}
use mathlib.Core.List.{List, [], ◌∷◌, ◌++◌, append_assoc}
use lib.ListN.{length, get_or, take, drop}
use lib.Seq.{drop-drop, drop_at, take_at, length-take-le}
use Rattle.bitset.specs.Relations.{joined}
use Rattle.byte_slices.specs.Parts.{part}
use Rattle.policy.specs.Basics.{each, All}
use Rattle.table_laws.proofs.ListLaws.{all_take, joined-place}
use Rattle.table_laws.proofs.Pieces.{Wide, wide-length}
use Rattle.table_reader.specs.Records.{records}

-- READING ONE BY ONE

module _ {A : Type 0} (w : ℕ) (read : List ℕ → A) (t : List ℕ) where
  -- where one or more are left, the first is read, and the others stand a width further on
  pub records-step : (at next n m : ℕ) → n ≡ m + 1 → next ≡ at + w → records w read n (drop at t) ≡ read (drop at t) ∷ records w read m (drop next t)
  unfolding records
  records-step at next n m e f =
      let s : n ≡ suc m = omega arith in
      rw (s, f) (ap (λ (l : List ℕ). read (drop at t) ∷ records w read m l) (drop-drop w at t))

  pub records-none : (at n : ℕ) → n ≡ 0 → records w read n (drop at t) ≡ []
  unfolding records
  records-none at n e = rw e

-- WHAT STANDS WHERE

-- the bytes are in t at a place
pub record Stands (t : List ℕ) (at : ℕ) (bytes : List ℕ) : Type 0 where
  pub rest : List ℕ
  pub here : drop at t ≡ bytes ++ rest

module _ {t : List ℕ} {at : ℕ} where
  pub stands-left : (x y : List ℕ) → Stands t at (x ++ y) → Stands t at x
  stands-left x y s = record { rest = y ++ s.rest; here = s.here ∙ append_assoc x y s.rest }

  pub stands-right : (x y : List ℕ) → Stands t at (x ++ y) → Stands t (at + length x) y
  stands-right x y s = record {
    rest = s.rest;
    here = sym (drop-drop (length x) at t) ∙ ap (drop (length x)) (s.here ∙ append_assoc x y s.rest) ∙ drop_at x (y ++ s.rest) (length x) refl;
  }

-- part k of parts that are one after the other, after those before it
stands-joined : {t : List ℕ} {at : ℕ} (ss : List (List ℕ)) (k : ℕ) → Stands t at (joined ss) → Stands t (at + length (joined (take k ss))) (get_or ss k [])
stands-joined {t} {at} ss k s = record {
  rest = joined (drop (suc k) ss) ++ s.rest;
  here = sym (drop-drop (length (joined (take k ss))) at t) ∙ ap (drop (length (joined (take k ss)))) s.here ∙ joined-place ss k s.rest;
}

-- parts of one width
pub stands-wide : {t : List ℕ} {at : ℕ} (w : ℕ) (ss : List (List ℕ)) → Wide w ss → (k : ℕ) → k < length ss → Stands t at (joined ss)
    → Stands t (at + w * k) (get_or ss k [])
stands-wide {t} {at} w ss wide k h s =
    subst (λ (n : ℕ). Stands t (at + n) (get_or ss k [])) long (stands-joined ss k s)
  where
    swapped : (a b : ℕ) → a * b ≡ b * a
    swapped a b = omega arith

    long : length (joined (take k ss)) ≡ w * k
    long =
        wide-length w (take k ss) (all_take (λ (s : List ℕ). length s ≡ w) k ss wide)
        ∙ (ap (λ (n : ℕ). n * w) (length-take-le k ss (omega arith)) ∙ swapped k w)

-- a set of a body of sets is the part of the table where it stands
pub set-part : {t : List ℕ} {at : ℕ} (w : ℕ) (ss : List (List ℕ)) → Wide w ss → (k : ℕ) → k < length ss → Stands t at (joined ss)
    → part t (at + w * k) w ≡ get_or ss k []
unfolding part
set-part w ss wide k h s =
    let p = stands-wide w ss wide k h s in
    ap (take w) p.here ∙ take_at (get_or ss k []) p.rest w (all_in ss wide k h)
  where
    all_in : (ss : List (List ℕ)) → Wide w ss → (k : ℕ) → k < length ss → length (get_or ss k []) ≡ w
    all_in [] wide k h = absurd (omega arith)
    all_in (s ∷ ss) wide zero h = wide.0
    all_in (s ∷ ss) wide (suc k) h = all_in ss wide.1 k (omega arith)

-- READ BACK

-- records of w bytes, each of which is read back from the front of its bytes
module _ {A : Type 0} (w : ℕ) (read : List ℕ → A) (bytes : A → List ℕ) (Good : A → Type 0)
    (wide : (a : A) → Good a → length (bytes a) ≡ w)
    (back : (a : A) → Good a → (rest : List ℕ) → read (bytes a ++ rest) ≡ a) where
  records-front : (l : List A) → All Good l → (rest : List ℕ) → records w read (length l) (joined (each bytes l) ++ rest) ≡ l
  unfolding records joined each
  records-front [] g rest = refl
  records-front (a ∷ l) g rest =
      let later = joined (each bytes l) ++ rest in
      rw (append_assoc (bytes a) (joined (each bytes l)) rest, back a g.0 later, drop_at (bytes a) later w (wide a g.0), records-front l g.1 rest)

  -- all of them, where they stand
  pub records-part : {t : List ℕ} {at : ℕ} (l : List A) → All Good l → Stands t at (joined (each bytes l)) → records w read (length l) (drop at t) ≡ l
  records-part l g s = ap (records w read (length l)) s.here ∙ records-front l g s.rest
