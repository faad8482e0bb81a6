-- The records of each body are read back where they stand. Assumes nothing.
use Prim.Native.Nat.{ℕ, ◌+◌, ◌<◌}
use mathlib.Core.Path.{◌≡◌, sym, ap, ap₂, ◌∙◌}
use mathlib.Core.List.{List, [], ◌∷◌, ◌++◌, append_assoc}
use lib.ListN.{length, get_or, take, drop, length-append}
use lib.Seq.{take_at, drop_at, drop-drop}
use Rattle.bitset.specs.Relations.{joined}
use Rattle.policy.specs.Basics.{each, le, All}
use Rattle.policy.specs.Rows.{Row, row}
use Rattle.policy.specs.Image.{TransitionEntry}
use Rattle.policy.specs.Encode.{transition_bytes, ConstraintRecord, constraint_bytes, RelabelRecord, relabel_bytes, row_bytes}
use Rattle.policy.specs.Sound.{transition_at, constraint_at, relabel_at}
use Rattle.table_laws.proofs.LittleEndian.{unle-le}
use Rattle.table_laws.proofs.Records.{WideTransition, transition-wide, SmallConstraint, constraint-wide, SmallRelabel, relabel-wide, row-wide}
use Rattle.table_reader.specs.Records.{records, row_at}
use Rattle.table_reader.proofs.RecordLaws.{Stands, records-part}

-- BODIES 7 AND 10

abbrev pub SmallRow : Row → Type 0
SmallRow r = r.num < 65536

row-front : (r : Row) → SmallRow r → (rest : List ℕ) → row_at (row_bytes r ++ rest) ≡ r
unfolding le
row-front r h rest = λ i. row r.kind r.comp r.op (unle-le 2 r.num h i)

pub rows-part : {t : List ℕ} {at : ℕ} (l : List Row) → All SmallRow l → Stands t at (joined (each row_bytes l)) → records 6 row_at (length l) (drop at t) ≡ l
rows-part = records-part 6 row_at row_bytes SmallRow (λ r h. row-wide r) row-front

-- BODY 6

constraint-front : (h : ConstraintRecord) → SmallConstraint h → (rest : List ℕ) → constraint_at (constraint_bytes h ++ rest) ≡ h
unfolding le
constraint-front h s rest = λ i. record {
  class = unle-le 2 h.class s.class i;
  mask = unle-le 4 h.mask s.mask i;
  first = unle-le 2 h.first s.first i;
  rows = unle-le 2 h.rows s.rows i;
}

pub constraints-part : {t : List ℕ} {at : ℕ} (l : List ConstraintRecord) → All SmallConstraint l → Stands t at (joined (each constraint_bytes l)) → records 10 constraint_at (length l) (drop at t) ≡ l
constraints-part = records-part 10 constraint_at constraint_bytes SmallConstraint (λ h s. constraint-wide h) constraint-front

-- BODY 9

relabel-front : (h : RelabelRecord) → SmallRelabel h → (rest : List ℕ) → relabel_at (relabel_bytes h ++ rest) ≡ h
unfolding le
relabel-front h s rest = λ i. record { class = unle-le 2 h.class s.class i; rows = unle-le 2 h.rows s.rows i }

pub relabels-part : {t : List ℕ} {at : ℕ} (l : List RelabelRecord) → All SmallRelabel l → Stands t at (joined (each relabel_bytes l))
    → records 4 relabel_at (length l) (drop at t) ≡ l
relabels-part = records-part 4 relabel_at relabel_bytes SmallRelabel (λ h s. relabel-wide h) relabel-front

-- BODY 5

transition-front : (m : TransitionEntry) → WideTransition m → (rest : List ℕ) → transition_at (transition_bytes m ++ rest) ≡ m
transition-front m w rest = λ i. record {
  roles = (ap (take 16) whole ∙ take_at m.roles (m.types ++ last) 16 w.roles) i;
  types = (ap (λ (l : List ℕ). take 64 (drop 16 l)) whole ∙ ap (take 64) (drop_at m.roles (m.types ++ last) 16 w.roles) ∙ take_at m.types last 64 w.types) i;
  class = ap (λ (l : List ℕ). get_or l 0 0) behind i;
  new = (ap (λ (l : List ℕ). get_or l 0 0) (sym (drop-drop 1 80 (transition_bytes m ++ rest))) ∙ ap (λ (l : List ℕ). get_or (drop 1 l) 0 0) behind) i;
}
  where
    last : List ℕ
    last = m.class ∷ m.new ∷ rest

    whole : transition_bytes m ++ rest ≡ m.roles ++ (m.types ++ last)
    whole = append_assoc m.roles (m.types ++ (m.class ∷ m.new ∷ [])) rest ∙ ap (λ (l : List ℕ). m.roles ++ l) (append_assoc m.types (m.class ∷ m.new ∷ []) rest)

    behind : drop 80 (transition_bytes m ++ rest) ≡ last
    behind =
        ap (drop 80) (whole ∙ sym (append_assoc m.roles m.types last))
        ∙ drop_at (m.roles ++ m.types) last 80 (length-append m.roles m.types ∙ ap₂ ◌+◌ w.roles w.types)

pub transitions-part : {t : List ℕ} {at : ℕ} (l : List TransitionEntry) → All WideTransition l → Stands t at (joined (each transition_bytes l))
    → records 82 transition_at (length l) (drop at t) ≡ l
transitions-part = records-part 82 transition_at transition_bytes WideTransition transition-wide transition-front
