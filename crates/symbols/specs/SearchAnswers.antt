-- What a search in the entries of declarations answers, in the words that the statements are resolved in. Assumes nothing.
use Rattle.std.specs.Prelude.{ℕ, ◌+◌, ◌*◌, ◌≤◌, length, Option, None}
use Rattle.std.proofs.Math.Option as maybe
use Rattle.std.proofs.Math.Option.{none, some}
use Rattle.policy.specs.Statements.{Family, users, roles, types, Declaration, plain, class}
use Rattle.policy.specs.Names.{Named}
use Rattle.policy.specs.Maxima.{max_permissions}
use Rattle.policy.specs.Encode.{sort_code}
use Rattle.symbols.specs.Lookup.{found_at}
use Rattle.symbols.specs.declared.Symbol.{Symbol}

-- the number of a family, as `family_number` has it
abbrev pub family_code : Family → ℕ
family_code users = 0
family_code roles = 1
family_code types = 2

-- what a name of a family is declared as
abbrev pub found_named : maybe.Option Named → Option Symbol
found_named none = None
found_named (some d) = found_at (sort_code d.sort) d.number

-- the nth of a sort whose numbers start at another number
abbrev pub found_number : ℕ → ℕ → maybe.Option ℕ → Option Symbol
found_number s first none = None
found_number s first (some n) = found_at s (first + n)

-- a class; "permission: class x 32 + its place"
abbrev pub found_class : maybe.Option ℕ → Option Symbol
found_class o = found_number 6 0 o

abbrev pub found_permission : ℕ → maybe.Option ℕ → Option Symbol
found_permission c o = found_number 7 (c * 32) o

-- "permissions 32 per class"
abbrev pub FewPermissions : Declaration → Type 0
FewPermissions (plain s w) = Unit {0}
FewPermissions (class w ps) = length ps ≤ max_permissions
