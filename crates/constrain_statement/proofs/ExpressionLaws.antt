-- The expression in the last part of a statement's row, by the item at its place. Assumes nothing.
use mathlib.Core.Path.{◌≡◌, refl, sym, ap, subst, ◌∙◌}
use mathlib.Core.List.{List, [], ◌∷◌}
use mathlib.Core.Option.{some}
use Prim.Native.Nat.{ℕ, ◌-◌, ◌<◌}
use native.Mathlib.Omega.{arith}
use types.Run.{OneOf}
use Rattle.std.specs.Prelude.{Option, None, Some, IfSome}
use Rattle.lexer.specs.Scan.{max_level}
use Rattle.lexer.specs.Forms.{frames_at, trim}
use Rattle.lexer.proofs.Trim.{starts_part}
use Rattle.policy.specs.Basics.{Name}
use Rattle.policy.specs.Words.{Sides}
use Rattle.policy.specs.Statements.{Constraint}
use Rattle.policy.specs.Grammar.{expression_in}
use Rattle.items.specs.Looks.{item_at, row_end}
use Rattle.items.specs.declared.Item.{Item}
use Rattle.items.proofs.Items.{Looked, by_part}
use Rattle.constraint_writer.specs.ExpressionWrites.{Past, Writes}
use Rattle.constraint_writer.specs.declared.RowsWritten.{RowsWritten}
use Rattle.constrain_statement.specs.Expressions.{IsExpression, WritesExpression}
use Rattle.constrain_statement.proofs.Masks.{tag}
use Rattle.constrain_statement.proofs.ClassLaws.{not_there, no_part, same_parts}

-- what was answered
pub told : {n : Sides} {t table before after : List ℕ} {at row : ℕ} {r k : Option RowsWritten} → WritesExpression n t at table before after row r → r ≡ k
    → WritesExpression n t at table before after row k
told {n} {t} {table} {before} {after} {at} {row} w e = subst (WritesExpression n t at table before after row) e w

module _ {n : Sides} {t : List ℕ} {at : ℕ} {table before : List ℕ} {row : ℕ} where
  -- no part is there
  pub no-expression : {k : Item} → k ≡ item_at t at → OneOf (0 ∷ 2 ∷ 3 ∷ []) (tag k) → WritesExpression n t at table before before row None
  no-expression d i = record {
    rises = tt;
    needs = λ e x. tt;
    rows = λ env e y x. not_there starts_part t at (max_level - 1) _ x.row refl (0 ∷ 2 ∷ 3 ∷ []) no_part d i;
  }

  -- what is written of the expression in the part
  pub in-part : {p j : ℕ} → Looked t at (Item.Open p j) → {after : List ℕ} {r : Option RowsWritten}
      → Writes t j (expression_in n (trim (frames_at t j).here (max_level - 2))) table before after row r → WritesExpression n t at table before after row r
  in-part {p} {j} l {after} {r} w = record {
    rises = go r w.reads;
    needs = λ e x. w.needs e (there e x);
    rows = λ env e y x. w.rows env e y (there e x);
  }
    where
      there : (e : Constraint Name) → IsExpression n t at e → expression_in n (trim (frames_at t j).here (max_level - 2)) ≡ some e
      there e x =
          ap (expression_in n) (same_parts (sym (by_part (λ f. f) (max_level - 1) (row_end t j) l refl (λ z. omega arith)) ∙ x.row)).0 ∙ x.form

      go : (r : Option RowsWritten) → IfSome r (Past t j row) → IfSome r (λ w. row < w.row)
      go None g = tt
      go (Some s) g = g.some-row
