-- The symbol table as the symbols of some declarations, in some blocks: what its names stand for. Assumes nothing.
use Rattle.std.specs.Prelude.{◌≡◌, true, List, [], ℕ, ◌+◌, ◌<◌, Option}
use Rattle.std.proofs.Math.Option.{some}
use Rattle.policy.specs.Basics.{Name}
use Rattle.policy.specs.Statements.{Family, Declaration}
use Rattle.policy.specs.Names.{Named, Environment, environment_of}
use Rattle.policy.specs.Encode.{entries}
use Rattle.policy.specs.Sound.{good_from}
use Rattle.symbols.specs.SearchAnswers.{family_code, found_named, found_class, found_permission}
use Rattle.symbols.specs.declared.Symbol.{Symbol}
use Rattle.name_chains.specs.Chains.{Chained}
use Rattle.scopes.specs.Scope.{InScope}

-- the memory has the chains of the entries of declarations and the scope of a path, and the environment is theirs: "A name must be declared earlier in the text
-- than its use". Who looks names up needs no more of this than that it is so
pub record Symbols (table : List ℕ) (env : Environment) : Type 0 where
  pub declared : List Declaration
  pub path : List Name
  pub end : ℕ
  pub is : env ≡ environment_of declared path
  pub good : good_from [] declared ≡ true
  pub chained : Chained table end (entries declared)
  pub scope : InScope table path

-- what is looked up is what the environment has: a thing or an attribute of a family, or a class
pub record Looks (table : List ℕ) (family : ℕ) (w : Name) (r : Option Symbol) : Type 0 where
  pub names : (env : Environment) (f : Family) → Symbols table env → family_code f ≡ family → r ≡ found_named (env.find f w)
  pub classes : (env : Environment) → Symbols table env → 3 ≡ family → r ≡ found_class (env.class w)

-- a class alone
pub record LooksClass (table : List ℕ) (w : Name) (r : Option Symbol) : Type 0 where
  pub classes : (env : Environment) → Symbols table env → r ≡ found_class (env.class w)

-- a permission of a class
pub record LooksPermission (table : List ℕ) (family : ℕ) (w : Name) (r : Option Symbol) : Type 0 where
  pub permissions : (env : Environment) (c : ℕ) → Symbols table env → 4 + c ≡ family → r ≡ found_permission c (env.permission c w)

-- the numbers that names stand for are below the largest maximum of their kind
pub record Bounded (env : Environment) : Type 0 where
  pub names : (f : Family) (w : Name) (d : Named) → env.find f w ≡ some d → d.number < 512
  pub classes : (w : Name) (c : ℕ) → env.class w ≡ some c → c < 32
  pub permissions : (c : ℕ) (w : Name) (k : ℕ) → env.permission c w ≡ some k → k < 32
