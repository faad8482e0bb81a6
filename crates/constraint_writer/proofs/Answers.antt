-- What an answer of `write_constraint` says to its caller of an expression whose form is good. Assumes nothing.
use mathlib.Core.Path.{◌≡◌}
use mathlib.Core.List.{List}
use mathlib.Core.Option.{some}
use Prim.Native.Nat.{ℕ, ◌+◌, ◌*◌, ◌≤◌}
use native.Mathlib.Omega.{arith}
use lib.ListN.{length}
use Rattle.std.specs.Prelude.{Some}
use Rattle.byte_slices.specs.Parts.{put}
use Rattle.bitset.specs.Relations.{joined}
use Rattle.policy.specs.Basics.{Name, each}
use Rattle.policy.specs.Statements.{Reference, Constraint, size}
use Rattle.policy.specs.Reading.{refer_e}
use Rattle.policy.specs.Rows.{rows_of}
use Rattle.policy.specs.Encode.{row_bytes}
use Rattle.policy.specs.Names.{Environment}
use Rattle.policy.proofs.RowCounts.{rows-count}
use Rattle.constraint_writer.specs.ExpressionWrites.{Resolves}
use Rattle.constraint_writer.specs.declared.RowsWritten.{RowsWritten}
use Rattle.constraint_writer.proofs.WrittenRows.{resolved}

-- the names of an expression are declared, its rows are counted, and they are in the memory if there is room
pub record Resolved (env : Environment) (e : Constraint Name) (before after : List ℕ) (row n : ℕ) : Type 0 where
  pub expression : Constraint Reference
  pub refers : refer_e env e ≡ some expression
  pub count : n ≡ row + size expression
  pub bytes : 6 * (row + size expression) ≤ length before → after ≡ put before (6 * row) (joined (each row_bytes (rows_of expression)))

pub declared : {before after : List ℕ} {row : ℕ} {env : Environment} {e : Constraint Name} {s : RowsWritten} → Resolves env e before after row (Some s)
    → Resolved env e before after row s.row
declared {before} {after} {row} {env} {e} w =
    let r = resolved env e before after row w in
    record {
      expression = r.expression;
      refers = r.refers;
      count = r.count;
      bytes = λ k. (w.wrote r.expression r.refers).put-there (omega (arith, k, rows-count r.expression));
    }
