-- What the bytes of a table say of its constraints and of its validatetrans statements, whatever the bytes are. On the table of a well-formed image it
-- is what the image says. Assumes nothing.
use Rattle.std.specs.Prelude.{◌≡◌, ℕ, ◌+◌, ◌-◌, ◌*◌, ◌/◌, ◌%◌, ◌<◌, ◌≤◌, Bool, cond, ◌&&◌, List, [], ◌∷◌, drop, ◌==◌, nat_lt, slice_index}
use Rattle.bitset.specs.Sets.{bit, member}
use Rattle.byte_slices.specs.Parts.{part}
use Rattle.policy.specs.Statements.{Family, users, roles, types, source, target, process}
use Rattle.policy.specs.Meaning.{Contexts}
use Rattle.policy.specs.Rows.{Row, View, top}
use Rattle.policy.specs.Image.{width}
use Rattle.policy.specs.Encode.{ConstraintRecord, RelabelRecord, sections_of}
use Rattle.policy.specs.Sound.{constraint_at, relabel_at, edition_in, of_comp}
use Rattle.policy.specs.Deciding.{first_failing}
use Rattle.table_reader.specs.Records.{records, row_at, start_in, length_in}
use Rattle.constraints.specs.Stack.{bounded_run}
use Rattle.constraints.specs.declared.Bodies.{Bodies}

-- WHERE THEY STAND

-- where the header says that n statements of section s, counted from 0, and their rows in section r stand: "offset and length, 4 bytes each"
abbrev pub bodies_at : List ℕ → ℕ → ℕ → ℕ → ℕ → ℕ → Bodies
bodies_at t s n r us rs = record {
  statements = start_in t s;
  count = n;
  rows = start_in t r;
  sets = start_in t 7;
  user_attributes = us;
  role_attributes = rs;
}

-- the constraints, of 10 bytes
abbrev pub bodies_in : List ℕ → ℕ → ℕ → Bodies
bodies_in t us rs = bodies_at t 5 (length_in t 5 / 10) 6 us rs

-- W-205: "Readers take edition 1 as having none"; statements of 4 bytes
abbrev pub relabel_count : List ℕ → ℕ
relabel_count t = cond (nat_lt 8 (sections_of (edition_in t))) (length_in t 8 / 4) 0

-- the validatetrans statements
abbrev pub relabel_bodies_in : List ℕ → ℕ → ℕ → Bodies
relabel_bodies_in t us rs = bodies_at t 8 (relabel_count t) 9 us rs

-- ROWS

-- body 8: "Sets of userattributes, roleattributes, typeattributes: 16, 16, 64 each": where the set of attribute a of a family starts
abbrev pub set_start : Bodies → Family → ℕ → ℕ
set_start b users a = b.sets + 16 * a
set_start b roles a = b.sets + 16 * (b.user_attributes + a)
set_start b types a = b.sets + 16 * (b.user_attributes + b.role_attributes) + 64 * a

abbrev pub view_in : List ℕ → Bodies → List ℕ → View
view_in t b sides = record { side = λ c. slice_index sides c; inset = λ c a n. member (part t (set_start b (of_comp c) a) (width (of_comp c))) n }

-- n rows from row r on; they leave true on the stack
abbrev pub rows_in : List ℕ → Bodies → ℕ → ℕ → List Row
rows_in t b r n = records 6 row_at n (drop (b.rows + 6 * r) t)

abbrev pub rows_hold_in : List ℕ → Bodies → List ℕ → ℕ → ℕ → Bool
rows_hold_in t b sides r n = top (bounded_run (view_in t b sides) (rows_in t b r n) [])

-- the nine numbers of a question, u1 u2 r1 r2 t1 t2 u3 r3 t3
abbrev pub sides_of : Contexts → List ℕ
sides_of on =
    (on source).user ∷ (on target).user ∷ (on source).role ∷ (on target).role ∷ (on source).type ∷ (on target).type
    ∷ (on process).user ∷ (on process).role ∷ (on process).type ∷ []

-- CONSTRAINTS

-- the constraints of body 6
abbrev pub constraints_in : List ℕ → Bodies → List ConstraintRecord
constraints_in t b = records 10 constraint_at b.count (drop b.statements t)

-- of n constraints that start at s those from number i on
abbrev pub constraints_from : List ℕ → ℕ → ℕ → ℕ → List ConstraintRecord
constraints_from t s n i = records 10 constraint_at (n - i) (drop (s + 10 * i) t)

-- a constraint names the class and permission; it holds
abbrev pub constraint_names : ℕ → ℕ → ConstraintRecord → Bool
constraint_names c k h = h.class == c && bit h.mask k

abbrev pub constraint_holds : List ℕ → Bodies → List ℕ → ConstraintRecord → Bool
constraint_holds t b sides h = rows_hold_in t b sides h.first h.rows

-- those from number i to before r are of other classes than c: whatever the permission k is and whichever hold, those from r on decide as those from i on do
pub record Passed (t : List ℕ) (s n c i r : ℕ) : Type 0 where
  pub ahead : i ≤ r
  pub within : i ≤ n → r ≤ n
  pub decides : (k : ℕ) (holds : ConstraintRecord → Bool)
      → first_failing 4 (constraint_names c k) holds i (constraints_from t s n i) ≡ first_failing 4 (constraint_names c k) holds r (constraints_from t s n r)

-- and r is of class c, if there is such a constraint
pub record NextOfClass (t : List ℕ) (s n c i r : ℕ) : Type 0 where
  pub passed : Passed t s n c i r
  pub of-class : r < n → (constraint_at (drop (s + 10 * r) t)).class ≡ c

-- VALIDATETRANS STATEMENTS

-- a statement of body 9, with its first row in body 10
pub record RelabelRun : Type 0 where
  pub class : ℕ
  pub first : ℕ
  pub rows : ℕ

-- they take up the rows in order, from row r on. A number of a row has 2 bytes and goes round after the last; a sound table has fewer rows
unfoldable pub runs_from : ℕ → List RelabelRecord → List RelabelRun
runs_from r [] = []
runs_from r (h ∷ hs) = record { class = h.class; first = r; rows = h.rows } ∷ runs_from ((r + h.rows) % 65536) hs

abbrev pub relabels_in : List ℕ → Bodies → List RelabelRun
relabels_in t b = runs_from 0 (records 4 relabel_at b.count (drop b.statements t))

-- a statement is of the class; it holds
abbrev pub relabel_names : ℕ → RelabelRun → Bool
relabel_names c h = h.class == c

abbrev pub relabel_holds : List ℕ → Bodies → List ℕ → RelabelRun → Bool
relabel_holds t b sides h = rows_hold_in t b sides h.first h.rows
