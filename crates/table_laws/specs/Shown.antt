-- What the questions name-of and entry show: the bytes of the part that they answer, and what those are to be. Demand 2: "reading a table
-- gives back those sets, rows and names". Assumes nothing.
use Rattle.std.specs.Prelude.{ℕ, ◌/◌, ◌%◌, cond, List, [], ◌∷◌, ◌++◌, eqb, get_or, take, drop}
use Rattle.std.proofs.Math.Option.{Option, none, some}
use Rattle.std.proofs.Math.ListN.{get_elem?}
use Rattle.policy.specs.Basics.{Name, ◌>>=◌, each}
use Rattle.policy.specs.Statements.{Declaration, names_of, class_names, permissions}
use Rattle.policy.specs.Image.{Image}
use Rattle.policy.specs.Encode.{transition_bytes, constraint_bytes, constraint_records, row_bytes, relabel_record, relabel_bytes}
use Rattle.policy.specs.Sound.{sort_of}
use Rattle.policy.specs.Deciding.{Reply, answered, refused}
use Rattle.policy.specs.Questions.{Part}
use Rattle.table_laws.specs.SoundTable.{all_rows, relabel_rows}

-- "the part of the lent table that holds it": its bytes
abbrev pub shown : List ℕ → Reply Part → Reply (List ℕ)
shown t (answered p) = answered (take p.size (drop p.start t))
shown t (refused n k) = refused n k

-- "number not declared in the table", "no such body or entry is 12"
abbrev pub or_twelve : {A : Type 0} → Option A → Reply A
or_twelve none = refused 12 0
or_twelve (some a) = answered a

-- the name of a sort and number: a class, a permission by class x 32 + its place, or a thing or an attribute
unfoldable pub name_in : List Declaration → ℕ → ℕ → Option Name
name_in ds s n =
    cond (eqb s 6) (get_elem? (class_names ds) n)
    (cond (eqb s 7) (get_elem? (permissions ds (n / 32)) (n % 32))
    (sort_of s >>= λ s. get_elem? (names_of s ds) n))

-- the entries of body b, 2 to 10, each as its bytes
unfoldable pub records_in : Image → ℕ → List (List ℕ)
records_in i b = get_or (
    []
    ∷ []
    ∷ i.user_roles
    ∷ i.role_types
    ∷ i.role_roles
    ∷ each transition_bytes i.transitions
    ∷ each constraint_bytes (constraint_records 0 i.constraints)
    ∷ each row_bytes (all_rows i)
    ∷ (i.user_sets ++ (i.role_sets ++ i.type_sets))
    ∷ each relabel_bytes (each relabel_record i.relabels)
    ∷ each row_bytes (relabel_rows i)
    ∷ []) b []
