-- The class that a statement names, as its first word or as the first of a part. Assumes nothing.
use Rattle.std.specs.Prelude.{ℕ, ◌<◌, ◌≡◌, List, Option, MatchOption, IfSome}
use Rattle.std.proofs.Math.Option.{none, some}
use Rattle.lexer.specs.Forms.{Forms, word, frames_at, trim}
use Rattle.policy.specs.Basics.{Name}
use Rattle.policy.specs.Maxima.{max_classes}
use Rattle.policy.specs.Names.{Environment}
use Rattle.scopes.specs.Symbols.{Symbols}
use Rattle.items.specs.Looks.{row_end}
use Rattle.constrain_statement.specs.declared.NamedClass.{NamedClass}

-- the number of the class, and where the rest of the row is; or fault 5: "name not declared before, or of the wrong sort"
abbrev pub ClassAnswers : List ℕ → ℕ → Environment → Name → Forms → Option NamedClass → Type 0
ClassAnswers t levels env c rest r =
    MatchOption r (env.class c ≡ none) (λ n. (env.class c ≡ some n.class) × (trim (frames_at t n.next).here levels ≡ rest))

-- of a row at the place at that starts with a word, in every environment that the symbols have
pub record Classes (t : List ℕ) (at : ℕ) (table : List ℕ) (r : Option NamedClass) : Type 0 where
  pub place : IfSome r (λ n. (row_end t at ≡ row_end t n.next) × (n.class < max_classes))
  pub says : (env : Environment) (levels start : ℕ) (c : Name) (rest : Forms) → Symbols table env → trim (frames_at t at).here levels ≡ word start c rest
      → ClassAnswers t levels env c rest r
