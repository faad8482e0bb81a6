-- The expression of a statement, which is the last part of the statement's row: its rows and its stack need. Assumes nothing.
use Rattle.std.specs.Prelude.{ℕ, ◌-◌, ◌<◌, ◌≡◌, List, Option, IfSome}
use Rattle.std.proofs.Math.Option.{some}
use Rattle.lexer.specs.Scan.{max_level}
use Rattle.lexer.specs.Forms.{Forms, closed, part, frames_at, trim}
use Rattle.policy.specs.Basics.{Name}
use Rattle.policy.specs.Words.{Sides}
use Rattle.policy.specs.Statements.{Constraint}
use Rattle.policy.specs.Grammar.{expression_in}
use Rattle.policy.specs.Names.{Environment}
use Rattle.scopes.specs.Symbols.{Symbols}
use Rattle.constraint_writer.specs.ExpressionWrites.{Needs, Resolves}
use Rattle.constraint_writer.specs.declared.RowsWritten.{RowsWritten}

-- what is left of the row at the place at is the part p, which holds the expression e
pub record IsExpression (n : Sides) (t : List ℕ) (at : ℕ) (e : Constraint Name) : Type 0 where
  pub place : ℕ
  pub inner : Forms
  pub row : trim (frames_at t at).here (max_level - 1) ≡ part place inner closed
  pub form : expression_in n inner ≡ some e

-- of such a part, in every environment that the symbols have
pub record WritesExpression (n : Sides) (t : List ℕ) (at : ℕ) (table before after : List ℕ) (row : ℕ) (r : Option RowsWritten) : Type 0 where
  pub rises : IfSome r (λ w. row < w.row)
  pub needs : (e : Constraint Name) → IsExpression n t at e → Needs e r
  pub rows : (env : Environment) (e : Constraint Name) → Symbols table env → IsExpression n t at e → Resolves env e before after row r
