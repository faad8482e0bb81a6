-- What the names of a statement are looked up in, and the unit of what one stands for. Assumes nothing.
use Rattle.std.specs.Prelude as prelude
use Rattle.std.specs.Prelude.{◌≡◌, List, ℕ, None, Some}
use Rattle.std.proofs.Math.Option.{Option, none, some}
use Rattle.policy.specs.Basics.{Name}
use Rattle.policy.specs.Statements.{Family, Reference}
use Rattle.policy.specs.Names.{refer, Environment}
use Rattle.scopes.specs.Symbols.{Symbols}
use Rattle.symbols.specs.SearchAnswers.{family_code}
use Rattle.statement_code.specs.Code.{reference_unit}

-- the unit of what a name refers to
abbrev pub referred : Option Reference → prelude.Option ℕ
referred none = None
referred (some r) = Some (reference_unit r)

-- the name w is resolved as `refer` resolves it
pub record Refers (table : List ℕ) (family : ℕ) (w : Name) (r : prelude.Option ℕ) : Type 0 where
  pub resolves : (env : Environment) (f : Family) → Symbols table env → family_code f ≡ family → r ≡ referred (refer env f w)
