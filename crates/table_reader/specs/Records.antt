-- Records of one width in the bytes of a table. Assumes nothing.
use Rattle.std.specs.Prelude.{ℕ, zero, suc, ◌+◌, ◌*◌, List, [], ◌∷◌, length, get_or, take, drop}
use Rattle.bitset.specs.Relations.{joined}
use Rattle.policy.specs.Basics.{unle}
use Rattle.policy.specs.Rows.{Row, row}
use Rattle.policy.specs.Image.{Image}
use Rattle.policy.specs.Encode as encode
use Rattle.policy.specs.Encode.{bodies, first_body}
use Rattle.table_reader.specs.declared.ConstraintRecord.{ConstraintRecord}
use Rattle.table_reader.specs.declared.RelabelRecord.{RelabelRecord}
use Rattle.table_reader.specs.declared.RowRecord.{RowRecord}

-- n records of w bytes, one after the other from the front of t on, each read by `read` from where it starts
module _ {A : Type 0} (w : ℕ) (read : List ℕ → A) where
  unfoldable pub records : ℕ → List ℕ → List A
  records zero t = []
  records (suc n) t = read t ∷ records n (drop w t)

-- a row of body 7 or 10: "kind, component, operator, 0, number in 2 bytes"; that the fourth byte is 0 is for the test of soundness to say
abbrev pub row_at : List ℕ → Row
row_at t = row (get_or t 0 0) (get_or t 1 0) (get_or t 2 0) (unle (take 2 (drop 4 t)))

-- what the structs of src/ stand for
abbrev pub row_of : RowRecord → Row
row_of r = row r.kind r.component r.operator r.number

abbrev pub constraint_of : ConstraintRecord → encode.ConstraintRecord
constraint_of c = record { class = c.class; mask = c.mask; first = c.first; rows = c.rows }

abbrev pub relabel_of : RelabelRecord → encode.RelabelRecord
relabel_of c = record { class = c.class; rows = c.rows }

-- where body k of an image's table of the edition e starts, counted from 0: "the bodies follow the last pair in order, without gaps"
unfoldable pub body_place : ℕ → Image → ℕ → ℕ
body_place e i k = first_body e + length (joined (take k (bodies i)))

-- "pairs of offset and length, 4 bytes each", from byte 4 on: what the header says of body k
abbrev pub start_in : List ℕ → ℕ → ℕ
start_in t k = unle (take 4 (drop (4 + 8 * k) t))

abbrev pub length_in : List ℕ → ℕ → ℕ
length_in t k = unle (take 4 (drop (8 + 8 * k) t))
