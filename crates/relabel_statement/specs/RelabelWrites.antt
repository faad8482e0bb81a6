-- What the writing of a validatetrans statement promises: its record of body 9, W-205: "class and row count, 2 bytes each", and its rows of body 10, "Rows
-- of 6 bytes, operands before operators, left first", or the first of the faults 5, 6 and 7: "6 and 7 as for constrain". Assumes nothing.
use Rattle.std.specs.Prelude.{ℕ, ◌-◌, ◌≤◌, ◌≡◌, List, length, Result}
use Rattle.std.proofs.Math.Option.{Option, none, some}
use Rattle.lexer.specs.Scan.{max_level}
use Rattle.lexer.specs.Forms.{frames_at, trim}
use Rattle.policy.specs.declared.Fault.{Fault}
use Rattle.policy.specs.Statements.{Written, Statement, declare, attributeset, gives, roletransition, constrain, validatetrans, size}
use Rattle.policy.specs.Maxima.{max_relabels, max_relabel_rows}
use Rattle.policy.specs.Grammar.{relabel_form}
use Rattle.policy.specs.Reading.{resolved}
use Rattle.policy.specs.Encode.{RelabelRecord, relabel_bytes}
use Rattle.policy.specs.Names.{Environment}
use Rattle.scopes.specs.Symbols.{Symbols}
use Rattle.constrain_statement.specs.Limits.{IsUndeclared, AddsOrFault}

-- "class and row count": the record of a statement
abbrev pub record_with : ℕ → ℕ → RelabelRecord
record_with c rows = record { class = c; rows = rows }

-- "At most 64 such statements and 1,024 rows": by the statement with its names resolved
abbrev pub Answers : Option Statement → List ℕ → List ℕ → ℕ → List ℕ → List ℕ → ℕ → Result ℕ Fault → Type 0
Answers none before after count rowsBefore rowsAfter row r = IsUndeclared r
Answers (some (validatetrans c e)) before after count rowsBefore rowsAfter row r =
    AddsOrFault max_relabels max_relabel_rows e 4 (relabel_bytes (record_with c (size e))) before after count rowsBefore rowsAfter row r
Answers (some (declare d)) before after count rowsBefore rowsAfter row r = Unit {0}
Answers (some (attributeset f a s)) before after count rowsBefore rowsAfter row r = Unit {0}
Answers (some (gives k x y)) before after count rowsBefore rowsAfter row r = Unit {0}
Answers (some (roletransition x y c n)) before after count rowsBefore rowsAfter row r = Unit {0}
Answers (some (constrain c ps e)) before after count rowsBefore rowsAfter row r = Unit {0}

-- of the statement whose keyword is before the place at, in every environment that the symbols have, where the memory has the bytes of 64 records and of
-- 1,024 rows
pub record WritesRelabel (t : List ℕ) (at : ℕ) (table : List ℕ) (before after : List ℕ) (count : ℕ) (rowsBefore rowsAfter : List ℕ) (row : ℕ) (r : Result ℕ Fault) : Type 0 where
  pub says : (env : Environment) (w : Written) → Symbols table env → row ≤ max_relabel_rows → 256 ≤ length before → 6144 ≤ length rowsBefore
      → relabel_form (trim (frames_at t at).here (max_level - 1)) ≡ some w
      → Answers (resolved env w) before after count rowsBefore rowsAfter row r
