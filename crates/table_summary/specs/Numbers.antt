-- The numbers of a summary, as they are found among the names of a table and put in their order. Assumes nothing.
use Rattle.std.specs.Prelude.{ℕ, ◌<◌, ◌≡◌, cond, List, [], ◌∷◌, ◌++◌, eqb, length, Option, Some, None}
use Rattle.policy.specs.Basics.{All}
use Rattle.policy.specs.declared.NameCounts.{NameCounts}
use Rattle.symbols.specs.declared.Symbol.{Symbol}
use Rattle.table_names.specs.declared.SpecialNumbers.{SpecialNumbers}

-- the number of what is found, if it is of the sort s; else m
abbrev pub number_of : ℕ → ℕ → Option Symbol → ℕ
number_of s m (Some x) = cond (eqb x.sort s) x.number m
number_of s m None = m

-- the first numbers of a summary; all of them, the last being how many permissions each class has
abbrev pub first_numbers : NameCounts → SpecialNumbers → List ℕ
first_numbers n x =
    n.users ∷ n.roles ∷ n.types ∷ n.user_attributes ∷ n.role_attributes ∷ n.type_attributes ∷ n.classes
    ∷ x.object ∷ x.process ∷ x.transition ∷ x.dyntransition ∷ []

abbrev pub numbers_of : NameCounts → SpecialNumbers → List ℕ → List ℕ
numbers_of n x ps = first_numbers n x ++ ps

-- a number that fits into four bytes
abbrev pub FourBytes : ℕ → Type 0
FourBytes n = n < 4294967296

-- they are as many as a summary has, and each fits
pub record Fit (ns : List ℕ) : Type 0 where
  pub long : length ns ≡ 43
  pub small : All FourBytes ns
