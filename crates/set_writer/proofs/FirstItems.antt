-- How an S begins, by the first item: an operator is before its operands; any other word, and a part, is the first operand of a union.
-- Assumes nothing.
use mathlib.Core.Path.{◌≡◌, refl, sym, subst, ◌∙◌}
use mathlib.Core.List.{List}
use mathlib.Core.Option.{Option, none, some, none-ne-some}
use Prim.Native.Nat.{ℕ}
use native.Mathlib.Omega.{arith}
use Rattle.lexer.specs.Forms.{Forms, closed, ended, word, part, frames_at, trim}
use Rattle.policy.specs.Basics.{Name}
use Rattle.policy.specs.Words.{set_word}
use Rattle.policy.specs.Statements.{SetExpr}
use Rattle.policy.specs.Grammar.{set_in}
use Rattle.words.specs.Numbers.{word_of}
use Rattle.items.proofs.Frames.{FramesSeen}
use Rattle.items.specs.declared.Item.{Item}
use Rattle.items.proofs.Frames.{around-of, by_word}
use Rattle.statement_code.specs.Code.{union_unit}
use Rattle.set_writer.specs.Sets.{operator_unit, Operands, Begins}
use Rattle.set_writer.proofs.OperatorUnits.{operator-row, name-row, part-row}

module _ {t : List ℕ} {at : ℕ} where
  -- with a word
  pub starts-operator : {s n k q : ℕ} (unit : ℕ) → FramesSeen t at (Item.Word s n k q) → unit ≡ operator_unit (set_word (word_of k)) → (unit ≡ union_unit → ⊥)
      → Begins t at (record { operator = unit; next = q })
  starts-operator unit l h d = record {
    row = λ levels w g. operator-row _ _ _ unit _ w l.ahead.2 h d (sym (by_word set_in levels l) ∙ g);
    around = sym (around-of l);
    ahead = omega (arith, l.ahead.0);
  }

  pub starts-name : {s n k q : ℕ} (unit : ℕ) → FramesSeen t at (Item.Word s n k q) → unit ≡ operator_unit (set_word (word_of k)) → unit ≡ union_unit
      → Begins t at (record { operator = unit; next = at })
  starts-name unit l h d = record {
    row = λ levels w g. subst (λ (f : Forms). Operands unit f w) (sym (by_word (λ (f : Forms). f) levels l))
        (name-row _ _ _ unit _ w l.ahead.2 h d (sym (by_word set_in levels l) ∙ g));
    around = refl;
    ahead = omega arith;
  }

-- S, if it does not begin with a word
abbrev pub unworded : Forms → Option (SetExpr Name)
unworded closed = none
unworded ended = none
unworded (word s w r) = none
unworded (part p i r) = set_in (part p i r)

unworded-row : (g : Forms) (w : SetExpr Name) → unworded g ≡ some w → Operands union_unit g w
unworded-row closed w h = absurd (none-ne-some w h)
unworded-row ended w h = absurd (none-ne-some w h)
unworded-row (word s v r) w h = absurd (none-ne-some w h)
unworded-row (part p i r) w h = part-row p i r w h

-- with another item
pub starts_other : {t : List ℕ} {at : ℕ} → ((levels : ℕ) → set_in (trim (frames_at t at).here levels) ≡ unworded (trim (frames_at t at).here levels))
    → Begins t at (record { operator = union_unit; next = at })
starts_other {t} {at} h = record {
  row = λ levels w g. unworded-row (trim (frames_at t at).here levels) w (sym (h levels) ∙ g);
  around = refl;
  ahead = omega arith;
}
