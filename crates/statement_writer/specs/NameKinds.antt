-- What the names of a statement may stand for, and the units of what they do stand for. Assumes nothing.
use Rattle.std.specs.Prelude as prelude
use Rattle.std.specs.Prelude.{◌≡◌, List, [], ◌∷◌, ℕ, ◌≤◌, None, Some, IsNone, IsSomeAnd, IfSome}
use Rattle.std.proofs.Math.Option.{Option, none, some}
use Rattle.lexer.specs.Forms.{Forms, closed, ended, word, part, frames_at, trim}
use Rattle.policy.specs.Answers.{family_of}
use Rattle.policy.specs.Basics.{Name, ◌>>=◌}
use Rattle.policy.specs.Statements.{roles, Sort, thing_of, attribute_of}
use Rattle.policy.specs.Encode.{sort_code}
use Rattle.policy.specs.Names.{refer, Environment, number_in}
use Rattle.statement_code.specs.Code.{reference_unit}
use Rattle.scopes.specs.Symbols.{Symbols}
use Rattle.statement_code.specs.UnitWrites.{Wrote, Keeps}
use Rattle.set_writer.specs.declared.Written.{Written}
use Rattle.statement_writer.specs.declared.Kind.{Kind}

-- "each place takes a thing or an attribute of the family"; the A of `(userattributeset A S)` is an attribute, the C of `(roletransition R T C R)`
-- a class, and "the first two may be attributes, the new role may not"
abbrev pub unit_in : Environment → Kind → Name → Option ℕ
unit_in env (Kind.Reference f) w = refer env (family_of f) w >>= λ r. some (reference_unit r)
unit_in env (Kind.Attribute f) w = number_in env (attribute_of (family_of f)) w
unit_in env Kind.Class w = env.class w
unit_in env Kind.Role w = number_in env (thing_of roles) w

-- a unit, where there is one
abbrev pub referred_by : Option ℕ → prelude.Option ℕ
referred_by none = None
referred_by (some n) = Some n

-- "of the wrong sort": the name w is resolved as a name of one sort alone, which is given by its number in the symbol table; class is 6
pub record Numbers (table : List ℕ) (sort : ℕ) (w : Name) (r : prelude.Option ℕ) : Type 0 where
  pub of-sort : (env : Environment) (s : Sort) → Symbols table env → sort_code s ≡ sort → r ≡ referred_by (number_in env s w)
  pub of-class : (env : Environment) → Symbols table env → 6 ≡ sort → r ≡ referred_by (env.class w)

-- the name w is resolved as a name of the kind
pub record Names (table : List ℕ) (k : Kind) (w : Name) (r : prelude.Option ℕ) : Type 0 where
  pub resolves : (env : Environment) → Symbols table env → r ≡ referred_by (unit_in env k w)

-- ---- names in a row

-- the unit of the first word of a row as a name of a kind; the row after it
abbrev pub first_unit : Environment → Kind → Forms → Option ℕ
first_unit env k closed = none
first_unit env k ended = none
first_unit env k (word s w g) = unit_in env k w
first_unit env k (part p i g) = none

abbrev pub behind_first : Forms → Forms
behind_first closed = ended
behind_first ended = ended
behind_first (word s w g) = g
behind_first (part p i g) = ended

-- the units of the first words of a row, a name for each kind; the row after them
abbrev pub names_units : Environment → List Kind → Forms → Option (List ℕ)
names_units env [] g = some []
names_units env (k ∷ ks) g = first_unit env k g >>= λ u. names_units env ks (behind_first g) >>= λ us. some (u ∷ us)

abbrev pub behind_names : List Kind → Forms → Forms
behind_names [] g = g
behind_names (k ∷ ks) g = behind_names ks (behind_first g)

-- what was read ends after the names at the place at, and what was written not before the place to
pub record Past (t : List ℕ) (at : ℕ) (ks : List Kind) (to : ℕ) (p : Written) : Type 0 where
  pub row : (levels : ℕ) → trim (frames_at t p.at).here levels ≡ behind_names ks (trim (frames_at t at).here levels)
  pub ahead : to ≤ p.to

-- "name not declared before, or of the wrong sort": there is no answer exactly if one of the names is not; else the units are written
abbrev pub AnswersNames : List ℕ → ℕ → Option (List ℕ) → List ℕ → prelude.Option Written → Type 0
AnswersNames before to none after r = IsNone r
AnswersNames before to (some us) after r = IsSomeAnd r (λ p. Wrote before to us after p.to)

-- what writing the names at a place of the text, one for each kind, answers and leaves. What is after them is not looked at
pub record WritesNames (t : List ℕ) (at : ℕ) (ks : List Kind) (table : List ℕ) (before : List ℕ) (to : ℕ) (after : List ℕ) (r : prelude.Option Written) : Type 0 where
  pub keeps : Keeps before to after
  pub moves : IfSome r (Past t at ks to)
  pub says : (env : Environment) (levels : ℕ) → Symbols table env → AnswersNames before to (names_units env ks (trim (frames_at t at).here levels)) after r
