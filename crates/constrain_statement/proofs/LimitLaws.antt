-- Whether the maxima and the stack need allow a statement, and what is there where they do. Assumes nothing.
use mathlib.Core.Path.{◌≡◌, sym, ap, ◌∙◌}
use mathlib.Core.Bool.{Bool, true}
use mathlib.Core.List.{List}
use Prim.Native.Nat.{ℕ, ◌+◌, ◌*◌, ◌≤◌, ◌<◌}
use native.Mathlib.Omega.{arith}
use borrow.Author.Tests.{leb-true, ltb-true}
use lib.Dec.{leb, ltb}
use lib.ListN.{length}
use Rattle.byte_slices.specs.Parts.{put}
use Rattle.bitset.specs.Relations.{joined}
use Rattle.policy.specs.Basics.{each}
use Rattle.policy.specs.Statements.{Reference, Constraint, size, need}
use Rattle.policy.specs.Maxima.{max_stack}
use Rattle.policy.specs.Rows.{rows_of}
use Rattle.policy.specs.Encode.{row_bytes}
use Rattle.policy.proofs.Lists.{both_true}
use Rattle.constrain_statement.specs.Limits.{Records, fits_within, AdmitsBy, AddsOrFault}
use Rattle.policy.specs.declared.Fault.{Fault}
use Rattle.std.specs.Prelude.{Result, Ok, Err}

-- ---- what fits

as_fits : (statements rows count n m : ℕ) {b : Bool} → n ≡ m → fits_within statements rows count n ≡ b → fits_within statements rows count m ≡ b
as_fits statements rows count n m q e = ap (fits_within statements rows count) (sym q) ∙ e

as-shallow : (n m : ℕ) {b : Bool} → n ≡ m → leb m max_stack ≡ b → leb n max_stack ≡ b
as-shallow n m p e = ap (λ (k : ℕ). leb k max_stack) p ∙ e

-- where one more fits there are fewer than the most, and as many bytes as the rows take are there
few : (statements rows count n : ℕ) → fits_within statements rows count n ≡ true → count < statements
few statements rows count n e = ltb-true count statements (both_true (ltb count statements) (leb n rows) e).0

room : (statements rows count n : ℕ) → fits_within statements rows count n ≡ true → 6 * n ≤ 6 * rows
room statements rows count n e = let most = leb-true n rows (both_true (ltb count statements) (leb n rows) e).1 in omega arith

-- ---- from what was admitted to what is there

-- x is the expression with its names resolved, and deep its stack need
module _ (statements most width : ℕ) (bytes before after : List ℕ) (count : ℕ) (rowsBefore rowsAfter : List ℕ) (row n deep : ℕ) (x : Constraint Reference)
    (p : need x ≡ deep) (q : n ≡ row + size x) (long : count < statements → width * count + width ≤ length before) (rows_long : 6 * most ≤ length rowsBefore)
    (v : 6 * (row + size x) ≤ length rowsBefore → rowsAfter ≡ put rowsBefore (6 * row) (joined (each row_bytes (rows_of x)))) where
  pub admitted : {written : List ℕ} → written ≡ bytes → Records width written before after count → (b : Result ℕ Fault) → AdmitsBy statements most count n deep b
      → AddsOrFault statements most x width bytes before after count rowsBefore rowsAfter row b
  admitted e stored (Ok o) g = record {
    fits = as_fits statements most count n (row + size x) q g.0;
    shallow = as-shallow (need x) deep p g.1;
    recorded = stored (long (few statements most count n g.0)) ∙ ap (put before (width * count)) e;
    rows = v (omega (arith, q, rows_long, room statements most count n g.0));
    next_row = g.2 ∙ q;
  }
  admitted e stored (Err Fault.MaximumPassed) g = as_fits statements most count n (row + size x) q g
  admitted e stored (Err Fault.StackTooSmall) g = (as_fits statements most count n (row + size x) q g.0, as-shallow (need x) deep p g.1)
  admitted e stored (Err f) g = absurd g
