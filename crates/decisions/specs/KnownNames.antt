-- What a caller knows of the names of a table before it asks. Assumes nothing.
use Rattle.std.specs.Prelude.{ℕ, ◌<◌, ◌≡◌, true, List, Option}
use Rattle.policy.specs.declared.NameCounts.{NameCounts}
use Rattle.table_names.specs.declared.SpecialNumbers.{SpecialNumbers}
use Rattle.table_names.specs.TableNames.{counts_in, permission_in, is_found_name, is_object_in, is_object_by, asks_role_in, asks_role_by}
use Rattle.soundness.specs.IsSound.{is_sound}

-- the table is sound, and these are its counts
pub record Counts (t : List ℕ) (n : NameCounts) : Type 0 where
  pub sound : is_sound t ≡ true
  pub counts : n ≡ counts_in t

-- and of what is declared the names that are treated apart are found by their numbers, where these are known
pub record Knows (t : List ℕ) (n : NameCounts) (x : Option SpecialNumbers) : Type 0 where
  pub counted : Counts t n
  pub object : (r : ℕ) → r < n.roles → is_object_by t x r ≡ is_object_in t r
  pub asks : (c k : ℕ) → c < n.classes → is_found_name (permission_in t c k) ≡ true → asks_role_by t x c k ≡ asks_role_in t c k
