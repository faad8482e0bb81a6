-- How many things of each sort the names of a table declare: all that the other bodies are held against. Assumes nothing.
use Rattle.std.specs.Prelude.{ℕ, List, length, get_or}
use Rattle.policy.specs.Statements.{Family, users, roles, types, thing_of, attribute_of, Declaration, count, class_names, permissions}
use Rattle.policy.specs.declared.NameCounts.{NameCounts}

pub record Totals : Type 0 where
  pub things : Family → ℕ
  pub attributes : Family → ℕ
  pub classes : ℕ
  pub permissions : ℕ → ℕ

-- those of a list of declarations
abbrev pub totals_of : List Declaration → Totals
totals_of ds = record {
  things = λ f. count (thing_of f) ds;
  attributes = λ f. count (attribute_of f) ds;
  classes = length (class_names ds);
  permissions = λ c. length (permissions ds c);
}

-- those that the struct of counts and the lent numbers of permissions stand for
abbrev pub things_of : NameCounts → Family → ℕ
things_of c users = c.users
things_of c roles = c.roles
things_of c types = c.types

abbrev pub attributes_of : NameCounts → Family → ℕ
attributes_of c users = c.user_attributes
attributes_of c roles = c.role_attributes
attributes_of c types = c.type_attributes

abbrev pub totals_in : NameCounts → List ℕ → Totals
totals_in c ps = record { things = things_of c; attributes = attributes_of c; classes = c.classes; permissions = λ k. get_or ps k 0 }
