-- How many entries of a sort the symbols have, and what they say of a name. Assumes nothing.
use Rattle.policy.specs.declared.Fault.{Fault}
use Rattle.std.specs.Prelude.{ℕ, ◌≡◌, List, length, Err, Ok, Result}
use Rattle.policy.specs.Basics.{Name}
use Rattle.policy.specs.Statements.{Sort, Declaration, class_names}
use Rattle.policy.specs.Statements as statements
use Rattle.policy.specs.Encode.{sort_code, entries}
use Rattle.symbols.specs.Lookup.{family_number, first_named}
use Rattle.std.specs.Prelude.{Option, Some, None}
use Rattle.symbols.specs.declared.Symbol.{Symbol}
use Rattle.declarations.specs.Declares.{Holds}

-- "Things are numbered from 0 in text order within their sort": so many of a sort are declared; sort 6 is class
pub record Counts (table : List ℕ) (sort r : ℕ) : Type 0 where
  pub things : (end : ℕ) (ds : List Declaration) (s : Sort) → Holds table end ds → sort ≡ sort_code s → r ≡ statements.count s ds
  pub classes : (end : ℕ) (ds : List Declaration) → Holds table end ds → sort ≡ 6 → r ≡ length (class_names ds)

-- a name that is found is taken; one that is not may be declared, as the next of its sort
abbrev pub standing : Option Symbol → ℕ → Result ℕ Fault
standing (Some x) k = Err Fault.DeclaredAgain
standing None k = Ok k

-- what the symbols say of the name w, in the family of a sort
pub record Stands (table : List ℕ) (sort : ℕ) (w : Name) (r : Result ℕ Fault) : Type 0 where
  pub names : (end : ℕ) (ds : List Declaration) (s : Sort) → Holds table end ds → sort ≡ sort_code s
      → r ≡ standing (first_named (family_number sort 0) w (entries ds)) (statements.count s ds)
  pub classes : (end : ℕ) (ds : List Declaration) → Holds table end ds → sort ≡ 6 → r ≡ standing (first_named (family_number sort 0) w (entries ds)) (length (class_names ds))
