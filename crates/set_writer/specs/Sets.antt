-- The units of a set expression whose names are resolved. Assumes nothing.
use Rattle.std.specs.Prelude as prelude
use Rattle.std.specs.Prelude.{◌≡◌, List, [], ◌∷◌, ◌++◌, ℕ, ◌<◌, ◌≤◌, length, IsNone, IsSomeAnd, IfSome}
use Rattle.std.proofs.Math.Option.{Option, none, some}
use Rattle.lexer.specs.Forms.{Forms, out, frames_at, trim}
use Rattle.policy.specs.Basics.{Name, ◌>>=◌}
use Rattle.policy.specs.Words.{Connective, all_c, not_c, and_c, or_c, xor_c}
use Rattle.policy.specs.Statements.{Family, Reference, SetExpr}
use Rattle.policy.specs.Grammar.{operands, set_in}
use Rattle.policy.specs.Reading.{refer_s}
use Rattle.policy.specs.Names.{Environment}
use Rattle.symbols.specs.SearchAnswers.{family_code}
use Rattle.statement_code.specs.Code.{set_code, all_unit, not_unit, and_unit, or_unit, xor_unit, union_unit, end_unit}
use Rattle.statement_code.specs.UnitWrites.{Wrote, Keeps}
use Rattle.scopes.specs.Symbols.{Symbols}
use Rattle.set_writer.specs.declared.SetStart.{SetStart}
use Rattle.set_writer.specs.declared.Written.{Written}

-- the operator of an S by its first word: "one or more operands (their union), `(all)`, `(not x)`, `(and x y)`, `(or x y)`, `(xor x y)`"
abbrev pub operator_unit : Option Connective → ℕ
operator_unit none = union_unit
operator_unit (some all_c) = all_unit
operator_unit (some not_c) = not_unit
operator_unit (some and_c) = and_unit
operator_unit (some or_c) = or_unit
operator_unit (some xor_c) = xor_unit

-- the units of an S, and those of operands one after the other with the end mark; none where a name is not declared
abbrev pub set_units : Environment → Family → SetExpr Name → Option (List ℕ)
set_units env f w = refer_s env f w >>= λ s. some (set_code s)

unfoldable pub row_units : Environment → Family → List (SetExpr Name) → Option (List ℕ)
row_units env f [] = some (end_unit ∷ [])
row_units env f (x ∷ xs) = refer_s env f x >>= λ s. row_units env f xs >>= λ us. some (set_code s ++ us)

-- units before others, if those are there
abbrev pub behind : List ℕ → Option (List ℕ) → Option (List ℕ)
behind us vs = vs >>= λ vs. some (us ++ vs)

-- the row g has the operands of the S w, whose operator has the unit
pub record Operands (unit : ℕ) (g : Forms) (w : SetExpr Name) : Type 0 where
  pub each : List (SetExpr Name)
  pub row : operands g ≡ some each
  pub units : (env : Environment) (f : Family) → set_units env f w ≡ behind (unit ∷ []) (row_units env f each)

-- how an S begins
pub record Begins (t : List ℕ) (at : ℕ) (r : SetStart) : Type 0 where
  pub row : (levels : ℕ) (w : SetExpr Name) → set_in (trim (frames_at t at).here levels) ≡ some w
      → Operands r.operator (trim (frames_at t r.next).here levels) w
  pub around : (frames_at t r.next).around ≡ (frames_at t at).around
  pub ahead : at ≤ r.next

-- what was read ends past the close of the row at the place at, and what was written not before the place to
pub record Past (t : List ℕ) (at to : ℕ) (p : Written) : Type 0 where
  pub rest : out (frames_at t at) ≡ frames_at t p.at
  pub less : at < p.at
  pub fits : p.at ≤ length t
  pub ahead : to ≤ p.to

-- "name not declared before, or of the wrong sort": there is no answer exactly if a name of S is not; else the code of S is written
abbrev pub Answers : List ℕ → ℕ → Option (SetExpr Reference) → List ℕ → prelude.Option Written → Type 0
Answers before to none after r = IsNone r
Answers before to (some s) after r = IsSomeAnd r (λ p. Wrote before to (set_code s) after p.to)

-- what writing the S at a place of the text answers and leaves. Nothing is said of a row that is no S, but that the code before the place to is kept
pub record WritesSet (t : List ℕ) (at levels : ℕ) (table : List ℕ) (family : ℕ) (before : List ℕ) (to : ℕ) (after : List ℕ) (r : prelude.Option Written) : Type 0 where
  pub keeps : Keeps before to after
  pub moves : IfSome r (Past t at to)
  pub says : (env : Environment) (f : Family) (w : SetExpr Name) → Symbols table env → family_code f ≡ family
      → set_in (trim (frames_at t at).here levels) ≡ some w → Answers before to (refer_s env f w) after r
