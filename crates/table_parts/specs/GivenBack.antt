-- Demand 2: "reading a table gives back those sets, rows and names". What is read of a table by asking name of and entry for one number after
-- the other, and what it is to be. Assumes nothing.
use Rattle.std.specs.Prelude.{ℕ, zero, suc, ◌+◌, ◌*◌, ◌≡◌, List, [], ◌∷◌, ◌++◌}
use Rattle.std.proofs.Math.Option.{Option, some}
use Rattle.policy.specs.Basics.{Name, ◌>>=◌, each, each_of}
use Rattle.policy.specs.Statements.{Sort, names_of, class_names, permissions}
use Rattle.policy.specs.Rows.{Row}
use Rattle.policy.specs.Image.{Image}
use Rattle.policy.specs.Encode.{sort_code}
use Rattle.policy.specs.Sound.{transition_at, constraint_at, row_at, assign_rows, relabel_at, assign_relabels}
use Rattle.policy.specs.Deciding.{Reply, answered, refused}
use Rattle.policy.specs.Questions.{name_on, entry_on}
use Rattle.table_laws.specs.Shown as parts

-- an answer goes before the others; a refusal ends them
abbrev pub onward : Reply (List ℕ) → List (List ℕ) → List (List ℕ)
onward (answered b) bs = b ∷ bs
onward (refused n k) bs = []

-- what is answered to 0, 1, 2, .. up to the first refusal, where at most m are asked
unfoldable pub listed : ℕ → (ℕ → Reply (List ℕ)) → List (List ℕ)
listed zero ask = []
listed (suc m) ask = onward (ask 0) (listed m (λ k. ask (suc k)))

-- the entries of a body, and the names of a sort, as name of and entry show them; no body has more than 2,048 entries
abbrev pub entries_of : List ℕ → ℕ → List (List ℕ)
entries_of t b = listed 2048 (λ k. parts.shown t (entry_on t b k))

abbrev pub names_in : List ℕ → ℕ → List Name
names_in t s = listed 2048 (λ n. parts.shown t (name_on t s n))

-- "permission: class x 32 + its place"
abbrev pub permissions_in : List ℕ → ℕ → List Name
permissions_in t c = listed 32 (λ k. parts.shown t (name_on t 7 (c * 32 + k)))

-- the records of a body with the rows that they take up in the body after it: constraints, and validatetrans statements
abbrev pub with_rows : {H C : Type 0} → (List ℕ → H) → (List H → List Row → Option (List C)) → List ℕ → ℕ → Option (List C)
with_rows head assign t b = each_of row_at (entries_of t (b + 1)) >>= λ rs. assign (each head (entries_of t b)) rs

-- "those sets, rows and names": the names of each sort by their numbers, the sets, the transitions, and the constraints and validatetrans
-- statements with their rows
pub record GivesBack (t : List ℕ) (i : Image) : Type 0 where
  pub names : (s : Sort) → names_in t (sort_code s) ≡ names_of s i.names
  pub classes : names_in t 6 ≡ class_names i.names
  pub permissions : (c : ℕ) → permissions_in t c ≡ permissions i.names c
  pub user_roles : entries_of t 2 ≡ i.user_roles
  pub role_types : entries_of t 3 ≡ i.role_types
  pub role_roles : entries_of t 4 ≡ i.role_roles
  pub transitions : each transition_at (entries_of t 5) ≡ i.transitions
  pub constraints : with_rows constraint_at (assign_rows 0) t 6 ≡ some i.constraints
  pub attributes : entries_of t 8 ≡ i.user_sets ++ (i.role_sets ++ i.type_sets)
  pub relabels : with_rows relabel_at assign_relabels t 9 ≡ some i.relabels

-- two tables that answer name of with the same places and the same bytes there, and entry with the same bytes
pub record SameAnswers (t u : List ℕ) : Type 0 where
  pub places : (s n : ℕ) → name_on t s n ≡ name_on u s n
  pub names : (s n : ℕ) → parts.shown t (name_on t s n) ≡ parts.shown u (name_on u s n)
  pub entries : (b k : ℕ) → parts.shown t (entry_on t b k) ≡ parts.shown u (entry_on u b k)
