-- What the writing of a constrain promises: its record of body 6, "class 2, permission mask 4, first row 2, row count 2", and its rows of body 7, "Rows
-- of 6 bytes, operands before operators, left first", or the first of the faults 5, 6 and 7. Assumes nothing.
use Rattle.std.specs.Prelude.{ℕ, ◌-◌, ◌≤◌, ◌≡◌, List, length, Result}
use Rattle.std.proofs.Math.Option.{Option, none, some}
use Rattle.lexer.specs.Scan.{max_level}
use Rattle.lexer.specs.Forms.{frames_at, trim}
use Rattle.policy.specs.declared.Fault.{Fault}
use Rattle.policy.specs.Words.{constrain_k}
use Rattle.policy.specs.Statements.{Reference, Constraint, Written, Statement, declare, attributeset, gives, roletransition, constrain, validatetrans, size}
use Rattle.policy.specs.Maxima.{max_constraints, max_rows}
use Rattle.policy.specs.Grammar.{formed}
use Rattle.policy.specs.Reading.{resolved}
use Rattle.policy.specs.Image.{mask_of}
use Rattle.policy.specs.Encode.{ConstraintRecord, constraint_bytes}
use Rattle.policy.specs.Names.{Environment}
use Rattle.scopes.specs.Symbols.{Symbols}
use Rattle.constrain_statement.specs.Limits.{IsUndeclared, AddsOrFault}

-- "class 2, permission mask 4, first row 2, row count 2"
abbrev pub record_with : ℕ → ℕ → ℕ → ℕ → ConstraintRecord
record_with c m first rows = record { class = c; mask = m; first = first; rows = rows }

-- the record of a constrain: class, mask, first row, number of rows
abbrev pub record_of : ℕ → List ℕ → Constraint Reference → ℕ → ConstraintRecord
record_of c ps e row = record_with c (mask_of ps) row (size e)

-- "constraints 128, constraint rows 2,048 in all": by the statement with its names resolved
abbrev pub Answers : Option Statement → List ℕ → List ℕ → ℕ → List ℕ → List ℕ → ℕ → Result ℕ Fault → Type 0
Answers none before after count rowsBefore rowsAfter row r = IsUndeclared r
Answers (some (constrain c ps e)) before after count rowsBefore rowsAfter row r =
    AddsOrFault max_constraints max_rows e 10 (constraint_bytes (record_of c ps e row)) before after count rowsBefore rowsAfter row r
Answers (some (declare d)) before after count rowsBefore rowsAfter row r = Unit {0}
Answers (some (attributeset f a s)) before after count rowsBefore rowsAfter row r = Unit {0}
Answers (some (gives k x y)) before after count rowsBefore rowsAfter row r = Unit {0}
Answers (some (roletransition x y c n)) before after count rowsBefore rowsAfter row r = Unit {0}
Answers (some (validatetrans c e)) before after count rowsBefore rowsAfter row r = Unit {0}

-- of the statement whose keyword is before the place at, in every environment that the symbols have, where the memory has the bytes of 128 records and of
-- 2,048 rows
pub record WritesConstrain (t : List ℕ) (at : ℕ) (table : List ℕ) (before after : List ℕ) (count : ℕ) (rowsBefore rowsAfter : List ℕ) (row : ℕ) (r : Result ℕ Fault) : Type 0 where
  pub says : (env : Environment) (w : Written) → Symbols table env → row ≤ max_rows → 1280 ≤ length before → 12288 ≤ length rowsBefore
      → formed constrain_k (trim (frames_at t at).here (max_level - 1)) ≡ some w
      → Answers (resolved env w) before after count rowsBefore rowsAfter row r
