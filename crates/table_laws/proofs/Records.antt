-- Transitions, the records of constraints and of validatetrans statements, and rows: each is read back from its bytes, and bytes of
-- the right length are those of what is read from them. Assumes nothing.
use Prim.Native.Nat.{ℕ, suc, ◌+◌, ◌<◌, ◌≤◌}
use native.Mathlib.Omega.{arith}
use mathlib.Core.Path.{◌≡◌, refl, sym, ap, ap₂, ◌∙◌, subst}
use mathlib.Core.List.{List, [], ◌∷◌, ◌++◌, append_assoc}
use mathlib.Core.Option.{Option, some, some-injective}
use lib.Dec.{eqb}
use lib.ListN.{length, get_or, take, drop, length-append, length-drop, take-append-drop, drop_of_length-le}
use lib.Seq.{take_at, drop_at, drop-drop, take_all, drop-cons, get_or-drop}
use borrow.Author.Tests.{eqb-true}
use Rattle.policy.specs.Basics.{more, each, each_of, le, unle, All}
use Rattle.policy.specs.Rows.{Row, row}
use Rattle.policy.specs.Image.{TransitionEntry}
use Rattle.policy.specs.Encode.{transition_bytes, ConstraintRecord, constraint_bytes, RelabelRecord, relabel_bytes, row_bytes}
use Rattle.policy.specs.Sound.{transition_at, row_at, constraint_at, relabel_at}
use Rattle.policy.proofs.Options.{given-some}
use Rattle.table_laws.specs.SoundTable.{Bytes}
use Rattle.table_laws.proofs.ListLaws.{more-some, all_drop}
use Rattle.table_laws.proofs.LittleEndian.{unle-le, le-unle-take}
use Rattle.table_laws.proofs.Pieces.{Wide}

-- TRANSITIONS

pub record WideTransition (m : TransitionEntry) : Type 0 where
  pub roles : length m.roles ≡ 16
  pub types : length m.types ≡ 64

drop-two : (a b : ℕ) (xs ys zs : List ℕ) → length xs ≡ a → length ys ≡ b → drop (a + b) (xs ++ (ys ++ zs)) ≡ zs
drop-two a b xs ys zs h k = ap (drop (a + b)) (sym (append_assoc xs ys zs)) ∙ drop_at (xs ++ ys) zs (a + b) (length-append xs ys ∙ ap₂ ◌+◌ h k)

pub transition-back : (m : TransitionEntry) → WideTransition m → transition_at (transition_bytes m) ≡ m
transition-back m w = λ i. record {
  roles = take_at m.roles (m.types ++ (m.class ∷ m.new ∷ [])) 16 w.roles i;
  types = (ap (take 64) (drop_at m.roles (m.types ++ (m.class ∷ m.new ∷ [])) 16 w.roles) ∙ take_at m.types (m.class ∷ m.new ∷ []) 64 w.types) i;
  class = ap (λ (l : List ℕ). get_or l 0 0) last i;
  new = (ap (λ (l : List ℕ). get_or l 0 0) (sym (drop-drop 1 80 (transition_bytes m))) ∙ ap (λ (l : List ℕ). get_or (drop 1 l) 0 0) last) i;
}
  where
    last : drop 80 (transition_bytes m) ≡ m.class ∷ m.new ∷ []
    last = drop-two 16 64 m.roles m.types (m.class ∷ m.new ∷ []) w.roles w.types

pub transition-wide : (m : TransitionEntry) → WideTransition m → length (transition_bytes m) ≡ 82
transition-wide m w =
    length-append m.roles (m.types ++ (m.class ∷ m.new ∷ []))
    ∙ ap₂ ◌+◌ w.roles (length-append m.types (m.class ∷ m.new ∷ []) ∙ ap (λ (n : ℕ). n + 2) w.types)

-- the bytes from m on: n of them and those from m + n on
cut : (n m : ℕ) (t : List ℕ) → take n (drop m t) ++ drop (m + n) t ≡ drop m t
cut n m t = ap (λ (r : List ℕ). take n (drop m t) ++ r) (sym (drop-drop n m t)) ∙ take-append-drop n (drop m t)

-- the bytes from m on, the first of them by itself
one : (m : ℕ) (t : List ℕ) → m < length t → get_or t m 0 ∷ drop (suc m) t ≡ drop m t
one m t h = sym (drop-cons t m 0 h)

pub transition-only : (t : List ℕ) → length t ≡ 82 → transition_bytes (transition_at t) ≡ t
transition-only t h =
    ap (λ (r : List ℕ). take 16 t ++ r) (ap (λ (r : List ℕ). take 64 (drop 16 t) ++ r) last ∙ cut 64 16 t) ∙ take-append-drop 16 t
  where
    last : get_or (drop 80 t) 0 0 ∷ get_or (drop 81 t) 0 0 ∷ [] ≡ drop 80 t
    last = rw (get_or-drop 80 t 0 0, get_or-drop 81 t 0 0, ← drop_of_length-le t {i = 82} (omega arith), one 81 t (omega arith), one 80 t (omega arith))

-- CONSTRAINT HEADS

pub record SmallConstraint (h : ConstraintRecord) : Type 0 where
  pub class : h.class < 65536
  pub mask : h.mask < 4294967296
  pub first : h.first < 65536
  pub rows : h.rows < 65536

pub constraint-back : (h : ConstraintRecord) → SmallConstraint h → constraint_at (constraint_bytes h) ≡ h
unfolding le
constraint-back h s = λ i. record {
  class = unle-le 2 h.class s.class i;
  mask = unle-le 4 h.mask s.mask i;
  first = unle-le 2 h.first s.first i;
  rows = unle-le 2 h.rows s.rows i;
}

pub constraint-wide : (h : ConstraintRecord) → length (constraint_bytes h) ≡ 10
unfolding le
constraint-wide h = refl

-- w bytes from m on are those of their number
field : (w m : ℕ) (t : List ℕ) → Bytes t → m + w ≤ length t → le w (unle (take w (drop m t))) ≡ take w (drop m t)
field w m t b l = le-unle-take w (drop m t) (all_drop (λ b. b < 256) m t b) (omega (arith, length-drop m t))

pub constraint-only : (t : List ℕ) → length t ≡ 10 → Bytes t → constraint_bytes (constraint_at t) ≡ t
constraint-only t h b = rw (
  field 2 0 t b (omega arith),
  field 4 2 t b (omega arith),
  field 2 6 t b (omega arith),
  field 2 8 t b (omega arith),
  take_all 2 (drop 8 t) (omega (arith, length-drop 8 t)),
  cut 2 6 t,
  cut 4 2 t,
  take-append-drop 2 t,
)

-- VALIDATETRANS HEADS

pub record SmallRelabel (h : RelabelRecord) : Type 0 where
  pub class : h.class < 65536
  pub rows : h.rows < 65536

pub relabel-back : (h : RelabelRecord) → SmallRelabel h → relabel_at (relabel_bytes h) ≡ h
unfolding le
relabel-back h s = λ i. record { class = unle-le 2 h.class s.class i; rows = unle-le 2 h.rows s.rows i }

pub relabel-wide : (h : RelabelRecord) → length (relabel_bytes h) ≡ 4
unfolding le
relabel-wide h = refl

pub relabel-only : (t : List ℕ) → length t ≡ 4 → Bytes t → relabel_bytes (relabel_at t) ≡ t
relabel-only t h b = rw (field 2 0 t b (omega arith), field 2 2 t b (omega arith), take_all 2 (drop 2 t) (omega (arith, length-drop 2 t)), take-append-drop 2 t)

-- ROWS

pub row_back : (r : Row) → r.num < 65536 → row_at (row_bytes r) ≡ some r
unfolding le
row_back r h = ap {B = Option Row} (λ n. some (row r.kind r.comp r.op n)) (unle-le 2 r.num h)

pub row-wide : (r : Row) → length (row_bytes r) ≡ 6
unfolding le
row-wide r = refl

pub rows_back : (rs : List Row) → All (λ (r : Row). r.num < 65536) rs → each_of row_at (each row_bytes rs) ≡ some rs
unfolding each_of each
rows_back [] h = refl
rows_back (r ∷ rs) h = ap₂ more (row_back r h.0) (rows_back rs h.1)

row-only : (t : List ℕ) (r : Row) → length t ≡ 6 → Bytes t → row_at t ≡ some r → row_bytes r ≡ t
row-only t r h b e =
    let g = given-some (eqb (get_or t 3 0) 0) (row (get_or t 0 0) (get_or t 1 0) (get_or t 2 0) (unle (take 2 (drop 4 t)))) r e in
    subst (λ (r : Row). row_bytes r ≡ t) g.1 (whole (eqb-true (get_or t 3 0) 0 g.0))
  where
    whole : get_or t 3 0 ≡ 0 → get_or t 0 0 ∷ get_or t 1 0 ∷ get_or t 2 0 ∷ 0 ∷ le 2 (unle (take 2 (drop 4 t))) ≡ t
    whole z =
        ap {B = List ℕ} (λ (n : ℕ). get_or t 0 0 ∷ get_or t 1 0 ∷ get_or t 2 0 ∷ n ∷ le 2 (unle (take 2 (drop 4 t)))) (sym z)
        ∙ rw (
          field 2 4 t b (omega arith),
          take_all 2 (drop 4 t) (omega (arith, length-drop 4 t)),
          one 3 t (omega arith),
          one 2 t (omega arith),
          one 1 t (omega arith),
          one 0 t (omega arith),
        )

pub rows-only : (ts : List (List ℕ)) (rs : List Row) → Wide 6 ts → All Bytes ts → each_of row_at ts ≡ some rs → each row_bytes rs ≡ ts
unfolding each_of each
rows-only [] rs w b e = ap (each row_bytes) (sym (some-injective [] rs e))
rows-only (t ∷ ts) rs w b e =
    let m = more-some (row_at t) (each_of row_at ts) rs e in
    ap (each row_bytes) m.4 ∙ ap₂ {C = List (List ℕ)} (λ x r. x ∷ r) (row-only t m.0 w.0 b.0 m.2) (rows-only ts m.1 w.1 b.1 m.3)
