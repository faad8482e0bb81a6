-- The numbers that the check of section 1 keeps while it walks, and what they stand for. Assumes nothing.
use Rattle.std.specs.Prelude.{is_some}
use Rattle.std.specs.Prelude.{◌≡◌, Bool, true, false, not, ◌&&◌, cond, List, ℕ, ◌+◌, ◌/◌, ◌%◌, ◌<◌, eqb, ltb, length, get_or, set, replicate}
use Rattle.std.proofs.Math.Option.{Option, none, some}
use Rattle.policy.specs.Basics.{Name}
use Rattle.policy.specs.Statements.{Sort, Declaration, count, class_names, permissions}
use Rattle.policy.specs.Maxima.{max_parts}
use Rattle.policy.specs.Encode.{NameEntry, sort_code}
use Rattle.symbols.specs.Lookup.{family_number, most_of, first_named}
use Rattle.name_spelling.specs.Spelling.{is_spelt}
use Rattle.policy.specs.declared.NameCounts.{NameCounts}
use Rattle.sound_names.specs.SoundNames.{counts_of, permission_counts}
use Rattle.sound_names.specs.EntryOrder.{Declaring, complete, opened, declared}

-- W-203: "at most .. nine parts, a permission's one", by the sort's number
abbrev pub most_parts : ℕ → ℕ
most_parts sort = cond (eqb sort 7) 1 max_parts

-- counts: at 0 to 6 those of the sorts; at 7 stands 0, or right after a class and its permissions 1 more than these are.
-- "numbers in each sort (places in each class) rise from 0"; a permission's number is "class x 32 + its place"
unfoldable pub allows : List ℕ → ℕ → ℕ → Bool
allows c sort number =
    cond (ltb sort 7) (not (eqb (get_or c 7 0) 1) && (eqb number (get_or c sort 0) && ltb number (most_of sort)))
    (eqb sort 7 && (eqb (number / 32 + 1) (get_or c 6 0) && eqb (number % 32 + 1) (get_or c 7 0)))

-- an entry may follow others with these counts: it is allowed, its name is good, and none of them has its family and its name
abbrev pub is_free : List ℕ → List NameEntry → ℕ → ℕ → Name → Bool
is_free c es sort number w = allows c sort number && (is_spelt (most_parts sort) w && not (is_some (first_named (family_number sort number) w es)))

-- the counts after an entry
unfoldable pub counted : List ℕ → ℕ → ℕ → List ℕ
counted c sort number = cond (eqb sort 7) (set c 7 (number % 32 + 2)) (set (set c sort (number + 1)) 7 (cond (eqb sort 6) 1 0))

-- how many permissions each class has, after an entry
unfoldable pub permitted : List ℕ → ℕ → ℕ → List ℕ
permitted p sort number = cond (eqb sort 7) (set p (number / 32) (number % 32 + 1)) p

-- an entry's sort and number have a place among so many counts and so many classes
pub record Room (counts classes sort number : ℕ) : Type 0 where
  pub eight : counts ≡ 8
  pub each-class : classes ≡ 32
  pub sort-small : sort < 8
  pub number_small : number < 65536
  pub class-small : sort ≡ 7 → number < 1024

pub record Zeros (counts permissions : List ℕ) : Type 0 where
  pub none-counted : counts ≡ replicate 8 0
  pub none-permitted : permissions ≡ replicate 32 0

-- 1 more than the permissions of the class that is open
abbrev pub open_of : Declaring → ℕ
open_of (complete ds) = 0
open_of (opened ds v ps) = length ps + 1

-- the numbers of what is declared
pub record Tallied (c p : List ℕ) (d : Declaring) : Type 0 where
  pub eight : length c ≡ 8
  pub things : (s : Sort) → get_or c (sort_code s) 0 ≡ count s (declared d)
  pub classes : get_or c 6 0 ≡ length (class_names (declared d))
  pub open-class : get_or c 7 0 ≡ open_of d
  pub each-class : length p ≡ 32
  pub of-class : (k : ℕ) → get_or p k 0 ≡ length (permissions (declared d) k)

-- what the walk says
pub data Judged : Type 0 where
  sound : NameCounts → List ℕ → Judged
  unsound : Judged

abbrev pub judged : Option (List Declaration) → Judged
judged none = unsound
judged (some ds) = sound (counts_of ds) (permission_counts ds)

-- what it says where it ends with these counts; an unsound section leaves them as they are
abbrev pub counts_in : List ℕ → NameCounts
counts_in c = record {
  users = get_or c 0 0;
  roles = get_or c 1 0;
  types = get_or c 2 0;
  user_attributes = get_or c 3 0;
  role_attributes = get_or c 4 0;
  type_attributes = get_or c 5 0;
  classes = get_or c 6 0;
}

abbrev pub judged_of : Bool → List ℕ → List ℕ → Judged
judged_of false c p = unsound
judged_of true c p = sound (counts_in c) p
