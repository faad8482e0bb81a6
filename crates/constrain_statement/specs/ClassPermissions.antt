-- The class and the permissions of a constrain, "`(constrain (C (P ...)) E)`", with their names resolved. Assumes nothing.
use Rattle.std.specs.Prelude as prelude
use Rattle.std.specs.Prelude.{ℕ, ◌+◌, ◌-◌, ◌≡◌, List, None, Some, MatchOption, IfSome}
use Rattle.std.proofs.Math.Option.{Option, none, some}
use Rattle.lexer.specs.Scan.{max_level}
use Rattle.lexer.specs.Forms.{Forms, closed, word, part, frames_at, trim}
use Rattle.policy.specs.Basics.{Name, ◌>>=◌, each_of}
use Rattle.policy.specs.Words.{as_part}
use Rattle.policy.specs.Grammar.{row_of}
use Rattle.policy.specs.Image.{mask_of}
use Rattle.policy.specs.Names.{Environment}
use Rattle.scopes.specs.Symbols.{Symbols}
use Rattle.items.specs.Looks.{row_end}
use Rattle.constrain_statement.specs.declared.PermissionMask.{PermissionMask}
use Rattle.constrain_statement.specs.declared.ClassAndPermissions.{ClassAndPermissions}

-- the numbers of some permissions of class c, "each P a permission of C"; none where one is "not declared before, or of the wrong sort"
abbrev pub numbers_of : Environment → ℕ → List Name → Option (List ℕ)
numbers_of env c ps = each_of (λ p. env.permission c p) ps

-- the mask that is answered: "permission mask 4"
abbrev pub mask_in : prelude.Option PermissionMask → Option ℕ
mask_in None = none
mask_in (Some m) = some m.mask

-- "repeats of P are harmless": the mask of a row of permissions of class c, whose names are the family 4 + c, and the place after its close
pub record Masks (t : List ℕ) (at : ℕ) (table : List ℕ) (family : ℕ) (r : prelude.Option PermissionMask) : Type 0 where
  pub place : IfSome r (λ m. row_end t at ≡ m.next)
  pub says : (env : Environment) (c : ℕ) (ps : List Name) → Symbols table env → family ≡ 4 + c → row_of as_part (frames_at t at).here ≡ some ps
      → mask_in r ≡ (numbers_of env c ps >>= λ ns. some (mask_of ns))

-- "C (P ...)", and the close
pub record ScopeForm (f : Forms) (c : Name) (ps : List Name) : Type 0 where
  pub start : ℕ
  pub place : ℕ
  pub inner : Forms
  pub row : f ≡ word start c (part place inner closed)
  pub names : row_of as_part inner ≡ some ps

-- the names are declared: the class is of this number, and the mask has a bit for each of the permissions and no other
pub record Scoped (env : Environment) (c : Name) (ps : List Name) (class mask : ℕ) : Type 0 where
  pub numbers : List ℕ
  pub class-is : env.class c ≡ some class
  pub permissions-are : numbers_of env class ps ≡ some numbers
  pub mask_is : mask ≡ mask_of numbers

-- the numbers, or fault 5: "name not declared before, or of the wrong sort"
abbrev pub ScopeAnswers : Environment → Name → List Name → prelude.Option ClassAndPermissions → Type 0
ScopeAnswers env c ps r = MatchOption r ((env.class c >>= λ n. numbers_of env n ps) ≡ none) (λ s. Scoped env c ps s.class s.mask)

-- of the row at the place at, in every environment that the symbols have
pub record Scopes (t : List ℕ) (at : ℕ) (table : List ℕ) (r : prelude.Option ClassAndPermissions) : Type 0 where
  pub place : IfSome r (λ s. row_end t at ≡ s.next)
  pub says : (env : Environment) (c : Name) (ps : List Name) → Symbols table env → ScopeForm (trim (frames_at t at).here (max_level - 2)) c ps
      → ScopeAnswers env c ps r
