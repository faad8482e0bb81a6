-- What is written for a statement that has a record and rows, or its fault: first 5, then 6, then 7; "each tried for 3, 4, 5, 6, 7". Assumes nothing.
use Rattle.std.specs.Prelude.{ℕ, ◌+◌, ◌*◌, ◌≤◌, ◌≡◌, Bool, true, false, ◌&&◌, List, leb, ltb, length, Result, Ok, Err, IsErrOf}
use Rattle.byte_slices.specs.Parts.{put}
use Rattle.bitset.specs.Relations.{joined}
use Rattle.policy.specs.Basics.{each}
use Rattle.policy.specs.Statements.{Reference, Constraint, size, need}
use Rattle.policy.specs.Maxima.{max_stack}
use Rattle.policy.specs.Rows.{rows_of}
use Rattle.policy.specs.Encode.{row_bytes}
use Rattle.policy.specs.declared.Fault.{Fault}

-- where there is room for it, exactly the record of so many bytes is put behind so many of them
abbrev pub Records : ℕ → List ℕ → List ℕ → List ℕ → ℕ → Type 0
Records width bytes before after count = width * count + width ≤ length before → after ≡ put before (width * count) bytes

-- there is room for one more statement, after so many, whose last row is before next, where there may be so many statements and rows
abbrev pub fits_within : ℕ → ℕ → ℕ → ℕ → Bool
fits_within statements rows count next = ltb count statements && leb next rows

-- the faults of such a statement, 5, 6 and 7: no other is answered, whatever the row and the memory hold
abbrev pub IsRefusal : Fault → Type 0
IsRefusal Fault.NameUndeclared = Unit {0}
IsRefusal Fault.MaximumPassed = Unit {0}
IsRefusal Fault.StackTooSmall = Unit {0}
IsRefusal f = ⊥

-- a name is not declared: 5
abbrev pub IsUndeclared : Result ℕ Fault → Type 0
IsUndeclared r = IsErrOf r Fault.NameUndeclared

-- all names are: this is done, where n is the row after the statement's, or it does not fit, 6, or the stack is too small, 7
abbrev pub OrFault : Bool → Bool → (ℕ → Type 0) → Result ℕ Fault → Type 0
OrFault fits shallow Done (Ok n) = Done n
OrFault fits shallow Done (Err Fault.MaximumPassed) = fits ≡ false
OrFault fits shallow Done (Err Fault.StackTooSmall) = (fits ≡ true) × (shallow ≡ false)
OrFault fits shallow Done (Err f) = ⊥

-- the maxima allow it and so deep a stack; or the first of 6 and 7
abbrev pub AdmitsBy : ℕ → ℕ → ℕ → ℕ → ℕ → Result ℕ Fault → Type 0
AdmitsBy statements rows count next deep r =
    let fits = fits_within statements rows count next in
    let shallow = leb deep max_stack in
    OrFault fits shallow (λ n. (fits ≡ true) × (shallow ≡ true) × (n ≡ next)) r

pub record Admits (statements rows count next deep : ℕ) (r : Result ℕ Fault) : Type 0 where
  pub says : AdmitsBy statements rows count next deep r

-- the record, of so many bytes, and the rows of e are in the memory as they will be in the table, and the maxima allow both
pub record Adds (statements most : ℕ) (e : Constraint Reference) (width : ℕ) (bytes before after : List ℕ) (count : ℕ) (rowsBefore rowsAfter : List ℕ) (row next : ℕ) : Type 0 where
  pub fits : fits_within statements most count (row + size e) ≡ true
  pub shallow : leb (need e) max_stack ≡ true
  pub recorded : after ≡ put before (width * count) bytes
  pub rows : rowsAfter ≡ put rowsBefore (6 * row) (joined (each row_bytes (rows_of e)))
  pub next_row : next ≡ row + size e

abbrev pub AddsOrFault : ℕ → ℕ → Constraint Reference → ℕ → List ℕ → List ℕ → List ℕ → ℕ → List ℕ → List ℕ → ℕ → Result ℕ Fault → Type 0
AddsOrFault statements most e width bytes before after count rowsBefore rowsAfter row r =
    OrFault (fits_within statements most count (row + size e)) (leb (need e) max_stack)
    (Adds statements most e width bytes before after count rowsBefore rowsAfter row) r
