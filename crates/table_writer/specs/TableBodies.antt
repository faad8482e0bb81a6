-- The bodies of a table, made from what the parser and the resolver leave, and the whole table. Assumes nothing.
use Rattle.std.specs.Prelude.{◌≡◌, List, ◌++◌, ℕ, ◌*◌, ◌≤◌, length, take, drop}
use Rattle.policy.specs.Statements.{users, roles, types, Policy}
use Rattle.policy.specs.Accepted.{Accepted}
use Rattle.policy.specs.Image.{image_of}
use Rattle.policy.specs.Encode.{encode, first_body, newest}
use Rattle.statement_code.specs.Code.{code_of}
use Rattle.code_reader.specs.AttributeSets.{final_sets}
use Rattle.table_writer.specs.declared.Sizes.{Sizes}
use Rattle.table_writer.specs.declared.Starts.{Starts}
use Rattle.table_writer.specs.PutBytes.{Puts}
use Rattle.table_writer.specs.TableSizes.{body, SizesOf, StartsOf}

-- the code of the statements of p, and the final sets of its attributes
pub record Sources (p : Policy) (units user_sets role_sets type_sets : List ℕ) : Type 0 where
  pub accepted : Accepted p
  pub code : units ≡ code_of p
  pub user-sets : user_sets ≡ final_sets p users
  pub role-sets : role_sets ≡ final_sets p roles
  pub type-sets : type_sets ≡ final_sets p types

-- the bodies that are copied are in the memory: names, constraints, validatetrans statements, and the rows of both. Those of validatetrans statements come
-- after room for all that there may be of constrains
pub record Copied (p : Policy) (s : Sizes) (symbols cs rs : List ℕ) : Type 0 where
  pub names : take s.names symbols ≡ body 0 p
  pub constraints : take (10 * s.constraints) cs ≡ body 5 p
  pub rows : take (6 * s.rows) rs ≡ body 6 p
  pub relabels : take (4 * s.relabels) (drop 1280 cs) ≡ body 8 p
  pub relabel-rows : take (6 * s.relabel_rows) (drop 12288 rs) ≡ body 9 p

-- bodies 3 and 4: "Types of each role, 64 each", "Roles each role may become, 16 each"
pub record WritesRoleRelations (r : Starts) (s : Sizes) (code role_sets type_sets before after : List ℕ) : Type 0 where
  pub says : (p : Policy) (user_sets : List ℕ) → Sources p code user_sets role_sets type_sets → SizesOf p s → StartsOf p r
      → Puts (body 2 p ++ body 3 p) before r.role_types after

-- bodies 1 to 4, with "Names in text order" and "Roles of each user, 16 bytes each" before those
pub record WritesRelations (r : Starts) (s : Sizes) (symbols code user_sets role_sets type_sets before after : List ℕ) : Type 0 where
  pub says : (p : Policy) → Sources p code user_sets role_sets type_sets → SizesOf p s → StartsOf p r → take s.names symbols ≡ body 0 p
      → Puts (body 0 p ++ (body 1 p ++ (body 2 p ++ body 3 p))) before (first_body newest) after

-- bodies 5 to 7: "Transitions in text order", "Constraints in text order", "Rows of 6 bytes"
pub record WritesRules (r : Starts) (s : Sizes) (code constraints rows role_sets type_sets before after : List ℕ) : Type 0 where
  pub says : (p : Policy) (user_sets : List ℕ) → Sources p code user_sets role_sets type_sets → SizesOf p s → StartsOf p r
      → take (10 * s.constraints) constraints ≡ body 5 p → take (6 * s.rows) rows ≡ body 6 p
      → Puts (body 4 p ++ (body 5 p ++ body 6 p)) before r.transitions after

-- body 8: "Sets of userattributes, roleattributes, typeattributes"
pub record WritesAttributes (r : Starts) (s : Sizes) (user_sets role_sets type_sets before after : List ℕ) : Type 0 where
  pub says : (p : Policy) (code : List ℕ) → Sources p code user_sets role_sets type_sets → SizesOf p s → StartsOf p r
      → Puts (body 7 p) before r.user_sets after

-- bodies 9 and 10: "9 holds class and row count, 2 bytes each, 10 the rows"
pub record WritesRelabels (r : Starts) (s : Sizes) (constraints rows before after : List ℕ) : Type 0 where
  pub says : (p : Policy) → Accepted p → SizesOf p s → StartsOf p r
      → take (4 * s.relabels) (drop 1280 constraints) ≡ body 8 p → take (6 * s.relabel_rows) (drop 12288 rows) ≡ body 9 p
      → Puts (body 8 p ++ body 9 p) before r.relabels after

-- the table of p, and after it the bytes that were there: "On success bytes past the table are unchanged". Where the sizes or the rest are not those
-- of an accepted policy, or the memory is too short for its table, what is written is free
pub record WritesTable (s : Sizes) (symbols code constraints rows user_sets role_sets type_sets before after : List ℕ) : Type 0 where
  pub says : (p : Policy) → Sources p code user_sets role_sets type_sets → SizesOf p s → Copied p s symbols constraints rows
      → length (encode newest (image_of p)) ≤ length before → after ≡ encode newest (image_of p) ++ drop (length (encode newest (image_of p))) before
