-- How long a table is, where its bodies start, and what is before them. Assumes nothing.
use Rattle.std.specs.Prelude.{◌≡◌, List, [], ◌∷◌, ◌++◌, ℕ, ◌+◌, ◌*◌, ◌≤◌, length, get_or, take}
use Rattle.policy.specs.Basics.{le}
use Rattle.policy.specs.Statements as statements
use Rattle.policy.specs.Statements.{Family, Policy, attribute_of, count, declarations}
use Rattle.policy.specs.Meaning.{count_in}
use Rattle.policy.specs.Reading.{row_count}
use Rattle.policy.specs.Accepted.{Accepted}
use Rattle.policy.specs.Image.{image_of}
use Rattle.policy.specs.Encode.{bodies, pairs, sections_of, first_body, encode, newest}
use Rattle.table_writer.specs.declared.Sizes.{Sizes}
use Rattle.table_writer.specs.declared.Starts.{Starts}
use Rattle.table_writer.specs.PutBytes.{Puts}

-- a body of the table of a policy, counted from 0
abbrev pub body : ℕ → Policy → List ℕ
body k p = get_or (bodies (image_of p)) k []

-- the bodies of all sections that the newest edition has
abbrev pub sections : Policy → List (List ℕ)
sections p = take (sections_of newest) (bodies (image_of p))

-- those that every edition has, and those that edition 2 has besides
abbrev pub first_sections : Policy → List (List ℕ)
first_sections p = take 8 (bodies (image_of p))

abbrev pub later_sections : Policy → List (List ℕ)
later_sections p = body 8 p ∷ body 9 p ∷ []

-- how many attributes of a family the whole text declares
abbrev pub attributes_in : Policy → Family → ℕ
attributes_in p f = count (attribute_of f) (declarations p)

-- the sizes are those of the table of p
pub record SizesOf (p : Policy) (s : Sizes) : Type 0 where
  pub names : s.names ≡ length (body 0 p)
  pub users : s.users ≡ count_in p statements.users
  pub roles : s.roles ≡ count_in p statements.roles
  pub transitions : s.transitions ≡ length (statements.transitions p)
  pub constraints : s.constraints ≡ length (statements.constrains p)
  pub rows : s.rows ≡ row_count statements.constrain_body (statements.constrains p)
  pub user-attributes : s.user_attributes ≡ attributes_in p statements.users
  pub role-attributes : s.role_attributes ≡ attributes_in p statements.roles
  pub type-attributes : s.type_attributes ≡ attributes_in p statements.types
  pub relabels : s.relabels ≡ length (statements.relabels p)
  pub relabel-rows : s.relabel_rows ≡ row_count statements.relabel_body (statements.relabels p)

-- sizes that are far from what a number can hold
pub record Few (s : Sizes) : Type 0 where
  pub names : s.names ≤ 200000
  pub users : s.users ≤ 200000
  pub roles : s.roles ≤ 200000
  pub transitions : s.transitions ≤ 200000
  pub constraints : s.constraints ≤ 200000
  pub rows : s.rows ≤ 200000
  pub user-attributes : s.user_attributes ≤ 200000
  pub role-attributes : s.role_attributes ≤ 200000
  pub type-attributes : s.type_attributes ≤ 200000
  pub relabels : s.relabels ≤ 200000
  pub relabel-rows : s.relabel_rows ≤ 200000

-- "the bodies follow .. in order, without gaps", each by the width of its entries
pub record Spaced (s : Sizes) (r : Starts) : Type 0 where
  pub user-roles : r.user_roles ≡ first_body newest + s.names
  pub role-types : r.role_types ≡ r.user_roles + 16 * s.users
  pub role-roles : r.role_roles ≡ r.role_types + 64 * s.roles
  pub transitions : r.transitions ≡ r.role_roles + 16 * s.roles
  pub constraints : r.constraints ≡ r.transitions + 82 * s.transitions
  pub rows : r.rows ≡ r.constraints + 10 * s.constraints
  pub user-sets : r.user_sets ≡ r.rows + 6 * s.rows
  pub role-sets : r.role_sets ≡ r.user_sets + 16 * s.user_attributes
  pub type-sets : r.type_sets ≡ r.role_sets + 16 * s.role_attributes
  pub relabels : r.relabels ≡ r.type_sets + 64 * s.type_attributes
  pub relabel-rows : r.relabel_rows ≡ r.relabels + 4 * s.relabels
  pub end : r.end ≡ r.relabel_rows + 6 * s.relabel_rows

-- the same of the bodies of p
pub record StartsOf (p : Policy) (r : Starts) : Type 0 where
  pub user-roles : r.user_roles ≡ first_body newest + length (body 0 p)
  pub role-types : r.role_types ≡ r.user_roles + length (body 1 p)
  pub role-roles : r.role_roles ≡ r.role_types + length (body 2 p)
  pub transitions : r.transitions ≡ r.role_roles + length (body 3 p)
  pub constraints : r.constraints ≡ r.transitions + length (body 4 p)
  pub rows : r.rows ≡ r.constraints + length (body 5 p)
  pub user-sets : r.user_sets ≡ r.rows + length (body 6 p)
  pub role-sets : r.role_sets ≡ r.user_sets + 16 * attributes_in p statements.users
  pub type-sets : r.type_sets ≡ r.role_sets + 16 * attributes_in p statements.roles
  pub relabels : r.relabels ≡ r.user_sets + length (body 7 p)
  pub relabel-rows : r.relabel_rows ≡ r.relabels + length (body 8 p)
  pub end : r.end ≡ r.relabel_rows + length (body 9 p)

-- "the length needed"
pub record Needs (s : Sizes) (r : ℕ) : Type 0 where
  pub says : (p : Policy) → Accepted p → SizesOf p s → r ≡ length (encode newest (image_of p))

-- "pairs of offset and length, 4 bytes each"
pub record WritesPairs (r : Starts) (before after : List ℕ) : Type 0 where
  pub says : (p : Policy) → StartsOf p r → Puts (pairs (first_body newest) (first_sections p)) before 4 after

pub record WritesLaterPairs (r : Starts) (before after : List ℕ) : Type 0 where
  pub says : (p : Policy) → StartsOf p r → Puts (pairs r.relabels (later_sections p)) before 68 after

-- "Bytes 0-1: edition .. Bytes 2-3 say how many sections there are", and then the pairs
abbrev pub header : Policy → List ℕ
header p = le 2 newest ++ (le 2 (sections_of newest) ++ pairs (first_body newest) (sections p))

pub record WritesHeader (r : Starts) (before after : List ℕ) : Type 0 where
  pub says : (p : Policy) → StartsOf p r → Puts (header p) before 0 after
