-- The units of a statement whose names are resolved. Assumes nothing.
use Rattle.std.specs.Prelude as prelude
use Rattle.std.specs.Prelude.{◌≡◌, List, ℕ, ◌-◌, ◌≤◌, IsNone, IsSomeAnd}
use Rattle.std.proofs.Math.Option.{Option, none, some}
use Rattle.lexer.specs.Scan.{max_level}
use Rattle.lexer.specs.Forms.{frames_at, trim}
use Rattle.policy.specs.Words.{Keyword}
use Rattle.policy.specs.Statements.{Written, Statement}
use Rattle.policy.specs.Grammar.{formed}
use Rattle.policy.specs.Reading.{resolved}
use Rattle.policy.specs.Names.{Environment}
use Rattle.statement_code.specs.Code.{statement_code}
use Rattle.scopes.specs.Symbols.{Symbols}
use Rattle.statement_code.specs.UnitWrites.{Wrote, Keeps}

-- units are written from the place to on, and u is the place after them
pub record Stores (before : List ℕ) (to : ℕ) (units after : List ℕ) (u : ℕ) : Type 0 where
  pub wrote : Wrote before to units after u
  pub keeps : Keeps before to after
  pub ahead : to ≤ u

-- "name not declared before, or of the wrong sort": there is no answer exactly if a name of the statement is not; else its units are written
abbrev pub Answers : List ℕ → ℕ → ℕ → Option Statement → List ℕ → prelude.Option ℕ → Type 0
Answers before to place none after r = IsNone r
Answers before to place (some s) after r = IsSomeAnd r (Wrote before to (statement_code place s) after)

-- what writing the statement with the keyword k, after which the place at is, answers and leaves. Nothing is said of a row that is not of the
-- keyword's form, but that the code before the place to is kept
pub record WritesStatement (t : List ℕ) (at : ℕ) (k : Keyword) (place : ℕ) (table : List ℕ) (before : List ℕ) (to : ℕ) (after : List ℕ) (r : prelude.Option ℕ) : Type 0 where
  pub keeps : Keeps before to after
  pub says : (env : Environment) (w : Written) → Symbols table env → formed k (trim (frames_at t at).here (max_level - 1)) ≡ some w
      → Answers before to place (resolved env w) after r
