-- What the memory that is lent to the parser holds of the statements as read: the symbols, the statement code, the constraints, the validatetrans
-- statements and the rows of both.
-- Assumes nothing.
use Rattle.std.specs.Prelude.{ℕ, ◌*◌, ◌≤◌, ◌≡◌, List, ◌++◌, length, take, drop}
use Rattle.bitset.specs.Relations.{joined}
use Rattle.policy.specs.Basics.{Name, each}
use Rattle.policy.specs.Statements.{Policy, declarations, transitions, constrains, constrain_body, relabels, relabel_body}
use Rattle.policy.specs.Reading.{row_count}
use Rattle.policy.specs.Accepted.{Accepted, GoodPath}
use Rattle.policy.specs.Image.{ConstraintEntry, constraint_entry, RelabelEntry, relabel_entry}
use Rattle.policy.specs.Encode.{entries, constraint_bytes, constraint_records, row_bytes, relabel_record, relabel_bytes}
use Rattle.statement_code.specs.Code.{code_of}
use Rattle.name_chains.specs.Chains.{Chained}
use Rattle.scopes.specs.Scope.{InScope}
use Rattle.declarations.specs.Declares.{section_of}
use Rattle.statement_reader.specs.declared.Progress.{Progress}
use Rattle.symbols.specs.Section.{name_bytes}

-- the four lent memories
pub record Memory : Type 0 where
  pub symbols : List ℕ
  pub code : List ℕ
  pub constraints : List ℕ
  pub rows : List ℕ

abbrev pub memory : List ℕ → List ℕ → List ℕ → List ℕ → Memory
memory s c k r = record { symbols = s; code = c; constraints = k; rows = r }

-- body 1: "Names in text order, permissions directly after their class"
unfoldable pub symbols_of : Policy → List ℕ
symbols_of p = section_of (declarations p)

-- body 6: "Constraints in text order: class 2, permission mask 4, first row 2, row count 2"
unfoldable pub constraints_of : Policy → List ℕ
constraints_of p = joined (each constraint_bytes (constraint_records 0 (each constraint_entry (constrains p))))

-- body 7: "Rows of 6 bytes, operands before operators, left first"
unfoldable pub rows_of : Policy → List ℕ
rows_of p = joined (each row_bytes (joined (each (λ (c : ConstraintEntry). c.rows) (each constraint_entry (constrains p)))))

-- body 9: "class and row count, 2 bytes each"
unfoldable pub relabels_of : Policy → List ℕ
relabels_of p = joined (each relabel_bytes (each relabel_record (each relabel_entry (relabels p))))

-- body 10: "the rows"
unfoldable pub relabel_rows_of : Policy → List ℕ
relabel_rows_of p = joined (each row_bytes (joined (each (λ (c : RelabelEntry). c.rows) (each relabel_entry (relabels p)))))

-- the bytes of all records and of all rows that constrains may have: those of validatetrans statements come after room for them
abbrev pub constraint_room : ℕ
constraint_room = 1280

abbrev pub row_room : ℕ
row_room = 12288

-- memory with some content in front, which ends at a place, and as it was lent after it
pub record Starts (lent content now : List ℕ) (end : ℕ) : Type 0 where
  pub is : now ≡ content ++ drop (length content) lent
  pub ends : end ≡ length content
  pub fits : length content ≤ length lent

-- the lent memory holds what the statements of p leave there, and the scope of the blocks that are open. The symbols end before their index
pub record Filled (p : Policy) (path : List Name) (lent now : Memory) (s : Progress) : Type 0 where
  pub symbols : Starts (take name_bytes lent.symbols) (symbols_of p) (take name_bytes now.symbols) s.symbols
  pub chained : Chained now.symbols s.symbols (entries (declarations p))
  pub scope : InScope now.symbols path
  pub code : Starts lent.code (code_of p) now.code s.code
  pub constraints : Starts (take constraint_room lent.constraints) (constraints_of p) (take constraint_room now.constraints) (10 * s.constraints)
  pub rows : Starts (take row_room lent.rows) (rows_of p) (take row_room now.rows) (6 * s.rows)
  pub relabel-records : Starts (drop constraint_room lent.constraints) (relabels_of p) (drop constraint_room now.constraints) (4 * s.relabels)
  pub relabel-rows : Starts (drop row_room lent.rows) (relabel_rows_of p) (drop row_room now.rows) (6 * s.relabel_rows)
  pub transition-count : s.transitions ≡ length (transitions p)
  pub constraint-count : s.constraints ≡ length (constrains p)
  pub row_count_lem : s.rows ≡ row_count constrain_body (constrains p)
  pub relabel-count : s.relabels ≡ length (relabels p)
  pub relabel-row-count : s.relabel_rows ≡ row_count relabel_body (relabels p)

-- the same of statements that keep every rule that faults 3 to 7 stand for
pub record Holds (p : Policy) (path : List Name) (lent now : Memory) (s : Progress) : Type 0 where
  pub accepted : Accepted p
  pub blocks : GoodPath path
  pub filled : Filled p path lent now s
