-- What the names of a table say, body 1, whatever the bytes are. On a sound table it is what the image says. Assumes nothing.
use Rattle.std.specs.Prelude.{ℕ, ◌+◌, ◌*◌, ◌<◌, ◌≡◌, Bool, true, false, ◌&&◌, ◌||◌, cond, List, eqb, ltb, get_or, Option, Some, None}
use Rattle.byte_slices.specs.Parts.{part}
use Rattle.policy.specs.Basics.{Name, same, any}
use Rattle.policy.specs.Words.{process_word, transition_words, object_r}
use Rattle.policy.specs.Encode.{NameEntry}
use Rattle.policy.specs.Deciding.{Reply, answered, refused}
use Rattle.policy.specs.Questions.{Part, name_from}
use Rattle.symbols.specs.Section.{entries_at}
use Rattle.symbols.specs.Lookup.{count_sort}
use Rattle.table_reader.specs.Records.{start_in, length_in}
use Rattle.policy.specs.declared.NameCounts.{NameCounts}
use Rattle.table_names.specs.declared.SpecialNumbers.{SpecialNumbers}

-- where body 1 starts and ends, as the header says, and its entries
abbrev pub names_start : List ℕ → ℕ
names_start t = start_in t 0

abbrev pub names_end : List ℕ → ℕ
names_end t = names_start t + length_in t 0

abbrev pub names_in : List ℕ → List NameEntry
names_in t = entries_at t (names_start t) (names_end t)

-- "Things are numbered from 0 in text order within their sort": how many names of a sort there are
abbrev pub count_in : List ℕ → ℕ → ℕ
count_in t s = count_sort s (names_in t)

-- at each sort's number how many there are
pub record Tallied (t counts : List ℕ) : Type 0 where
  pub of-sort : (s : ℕ) → s < 8 → get_or counts s 0 ≡ count_in t s

abbrev pub counts_in : List ℕ → NameCounts
counts_in t = record {
  users = count_in t 0;
  roles = count_in t 1;
  types = count_in t 2;
  user_attributes = count_in t 3;
  role_attributes = count_in t 4;
  type_attributes = count_in t 5;
  classes = count_in t 6;
}

-- "**Name of** a sort and number"
abbrev pub name_at : List ℕ → ℕ → ℕ → Reply Part
name_at t x n = name_from x n (names_start t) (names_in t)

-- a permission, "class x 32 + its place", which is below 32 as the class is
unfoldable pub permission_in : List ℕ → ℕ → ℕ → Reply Part
permission_in t c k = cond (ltb c 32 && ltb k 32) (name_at t 7 (c * 32 + k)) (refused 12 0)

abbrev pub is_found_name : Reply Part → Bool
is_found_name (answered p) = true
is_found_name (refused n k) = false

-- the part of the table is the word; it is one of the words
abbrev pub has_name : List ℕ → Reply Part → Name → Bool
has_name t (answered p) w = same (part t p.start p.size) w
has_name t (refused n k) w = false

abbrev pub has_one_name : List ℕ → Reply Part → List Name → Bool
has_one_name t r ws = any (has_name t r) ws

-- "class `process`, permission `transition` or `dyntransition`"; 6 is the sort of classes
unfoldable pub asks_role_in : List ℕ → ℕ → ℕ → Bool
asks_role_in t c k = has_name t (name_at t 6 c) process_word && has_one_name t (permission_in t c k) transition_words

-- W-201: "a context whose role is named `object_r`"; 1 is the sort of roles
unfoldable pub is_object_in : List ℕ → ℕ → Bool
is_object_in t r = has_name t (name_at t 1 r) object_r

-- the same where the numbers of these names may be known
abbrev pub is_object_by : List ℕ → Option SpecialNumbers → ℕ → Bool
is_object_by t None r = is_object_in t r
is_object_by t (Some n) r = eqb r n.object

abbrev pub asks_role_by_number : SpecialNumbers → ℕ → ℕ → Bool
asks_role_by_number n c k = eqb c n.process && (eqb k n.transition || eqb k n.dyntransition)

abbrev pub asks_role_by : List ℕ → Option SpecialNumbers → ℕ → ℕ → Bool
asks_role_by t None c k = asks_role_in t c k
asks_role_by t (Some n) c k = asks_role_by_number n c k
