-- What the writing of a constraint expression promises: its rows are in the lent memory as document 01's body 7 has them, "Rows of 6 bytes,
-- operands before operators, left first", and its stack need is told; or a name of it is not declared, fault 5. Assumes nothing.
use Rattle.std.specs.Prelude as prelude
use Rattle.std.specs.Prelude.{ℕ, ◌+◌, ◌-◌, ◌*◌, ◌<◌, ◌≤◌, ◌≡◌, List, length, take, None, Some, IfSome}
use Rattle.std.proofs.Math.Option.{Option, none, some}
use Rattle.byte_slices.specs.Parts.{put}
use Rattle.bitset.specs.Relations.{joined}
use Rattle.lexer.specs.Forms.{out, frames_at}
use Rattle.policy.specs.Basics.{Name, each, ◌>>=◌}
use Rattle.policy.specs.Statements.{Reference, Constraint, size, need}
use Rattle.policy.specs.Reading.{refer_e}
use Rattle.policy.specs.Rows.{Row, rows_of}
use Rattle.policy.specs.Encode.{row_bytes}
use Rattle.policy.specs.Names.{Environment}
use Rattle.scopes.specs.Symbols.{Symbols}
use Rattle.constraint_writer.specs.declared.RowsWritten.{RowsWritten}

-- each row of an expression has a byte of the text of its own, so that with so many bytes after the place at the numbers of the rows from a row on
-- fit a usize
abbrev pub Countable : List ℕ → ℕ → ℕ → Type 0
Countable t at row = row + (length t - at) ≤ 18446744073709551615

-- the memory is as long as it was, and what is before a row is as it was
pub record Kept (before after : List ℕ) (row : ℕ) : Type 0 where
  pub long : length after ≡ length before
  pub front : take (6 * row) after ≡ take (6 * row) before

-- so it is kept, and where there is room for them exactly the bytes of some rows are put there
pub record Wrote (before after : List ℕ) (row : ℕ) (rs : List Row) : Type 0 where
  pub kept : Kept before after row
  pub put-there : 6 * (row + length rs) ≤ length before → after ≡ put before (6 * row) (joined (each row_bytes rs))

-- the number of the row after those that were written
abbrev pub next_row : prelude.Option RowsWritten → Option ℕ
next_row None = none
next_row (Some w) = some w.row

-- an expression's rows are written and counted, exactly if its names are declared
pub record Resolves (env : Environment) (e : Constraint Name) (before after : List ℕ) (row : ℕ) (r : prelude.Option RowsWritten) : Type 0 where
  pub answer : next_row r ≡ (refer_e env e >>= λ x. some (row + size x))
  pub wrote : (x : Constraint Reference) → refer_e env e ≡ some x → Wrote before after row (rows_of x)

-- "Stack need of E": that of an expression is told
abbrev pub Needs : Constraint Name → prelude.Option RowsWritten → Type 0
Needs e r = IfSome r (λ w. w.need ≡ need e)

-- what was read ends past the close of the row of the text at the place at, and each row that was written has a byte of its own there, and so has each
-- value on the stack
pub record Past (t : List ℕ) (at row : ℕ) (w : RowsWritten) : Type 0 where
  pub rest : frames_at t w.at ≡ out (frames_at t at)
  pub less : at < w.at
  pub fits : w.at ≤ length t
  pub some-row : row < w.row
  pub few-rows : at + w.row ≤ w.at + row
  pub few-values : at + w.need ≤ w.at

-- m is the expression that is at the place at, if its form is good. If it is not, the answer is free: promised is only what is kept, and that a
-- place that is answered is past the close
pub record Writes (t : List ℕ) (at : ℕ) (m : Option (Constraint Name)) (symbols : List ℕ) (before after : List ℕ) (row : ℕ) (r : prelude.Option RowsWritten) : Type 0 where
  pub kept : Kept before after row
  pub reads : IfSome r (Past t at row)
  pub needs : (e : Constraint Name) → m ≡ some e → Needs e r
  pub rows : (env : Environment) (e : Constraint Name) → Symbols symbols env → m ≡ some e → Resolves env e before after row r
