-- Document 01, "The table, contents first": the bytes of an image. Assumes nothing.
use Rattle.std.specs.Prelude.{ℕ, ◌+◌, ◌*◌, List, [], ◌∷◌, ◌++◌, length, get_or, take}
use Rattle.bitset.specs.Relations.{joined}
use Rattle.policy.specs.Basics.{Name, each, le}
use Rattle.policy.specs.Statements.{users, roles, types, Sort, thing_of, attribute_of, Declaration, plain, class, count, class_names}
use Rattle.policy.specs.Rows.{Row}
use Rattle.policy.specs.Image.{Image, TransitionEntry, ConstraintEntry, RelabelEntry}

-- "sort in 1 byte (0 user, 1 role, 2 type, 3 to 5 their attributes, 6 class, 7 permission)"
abbrev pub sort_code : Sort → ℕ
sort_code (thing_of users) = 0
sort_code (thing_of roles) = 1
sort_code (thing_of types) = 2
sort_code (attribute_of users) = 3
sort_code (attribute_of roles) = 4
sort_code (attribute_of types) = 5

-- an entry of body 1
pub record NameEntry : Type 0 where
  pub sort : ℕ
  pub number : ℕ
  pub name : Name

abbrev pub name_entry : ℕ → ℕ → Name → NameEntry
name_entry s n w = record { sort = s; number = n; name = w }

-- "permission: class x 32 + its place", from the number of the first on
unfoldable pub permission_entries : ℕ → List Name → List NameEntry
permission_entries n [] = []
permission_entries n (w ∷ ws) = name_entry 7 n w ∷ permission_entries (n + 1) ws

-- a declaration's entries, after the declarations ds; "permissions directly after their class"
abbrev pub entries_of : List Declaration → Declaration → List NameEntry
entries_of ds (plain s w) = name_entry (sort_code s) (count s ds) w ∷ []
entries_of ds (class w ps) = name_entry 6 (length (class_names ds)) w ∷ permission_entries (length (class_names ds) * 32) ps

unfoldable pub entries_from : List Declaration → List Declaration → List NameEntry
entries_from earlier [] = []
entries_from earlier (d ∷ ds) = entries_of earlier d ++ entries_from (earlier ++ (d ∷ [])) ds

-- "Names in text order"
unfoldable pub entries : List Declaration → List NameEntry
entries ds = entries_from [] ds

-- "number in 2 bytes .., length in 1, bytes"
abbrev pub entry_bytes : NameEntry → List ℕ
entry_bytes e = e.sort ∷ (le 2 e.number ++ (length e.name ∷ e.name))

abbrev pub transition_bytes : TransitionEntry → List ℕ
transition_bytes m = m.roles ++ (m.types ++ (m.class ∷ m.new ∷ []))

-- a constraint of body 6: "class 2, permission mask 4, first row 2, row count 2"
pub record ConstraintRecord : Type 0 where
  pub class : ℕ
  pub mask : ℕ
  pub first : ℕ
  pub rows : ℕ

abbrev pub constraint_bytes : ConstraintRecord → List ℕ
constraint_bytes h = le 2 h.class ++ (le 4 h.mask ++ (le 2 h.first ++ le 2 h.rows))

-- "constraints take up the rows in order", from row r on
unfoldable pub constraint_records : ℕ → List ConstraintEntry → List ConstraintRecord
constraint_records r [] = []
constraint_records r (c ∷ cs) = record { class = c.class; mask = c.mask; first = r; rows = length c.rows } ∷ constraint_records (r + length c.rows) cs

-- "Rows of 6 bytes"
abbrev pub row_bytes : Row → List ℕ
row_bytes r = r.kind ∷ r.comp ∷ r.op ∷ 0 ∷ le 2 r.num

-- W-205: "9 holds class and row count, 2 bytes each"
pub record RelabelRecord : Type 0 where
  pub class : ℕ
  pub rows : ℕ

abbrev pub relabel_record : RelabelEntry → RelabelRecord
relabel_record c = record { class = c.class; rows = length c.rows }

abbrev pub relabel_bytes : RelabelRecord → List ℕ
relabel_bytes h = le 2 h.class ++ le 2 h.rows

-- the bodies of all sections
unfoldable pub bodies : Image → List (List ℕ)
bodies i =
    joined (each entry_bytes (entries i.names))
    ∷ joined i.user_roles
    ∷ joined i.role_types
    ∷ joined i.role_roles
    ∷ joined (each transition_bytes i.transitions)
    ∷ joined (each constraint_bytes (constraint_records 0 i.constraints))
    ∷ joined (each row_bytes (joined (each (λ c. c.rows) i.constraints)))
    ∷ (joined i.user_sets ++ (joined i.role_sets ++ joined i.type_sets))
    ∷ joined (each relabel_bytes (each relabel_record i.relabels))
    ∷ joined (each row_bytes (joined (each (λ c. c.rows) i.relabels)))
    ∷ []

-- "pairs of offset and length, 4 bytes each; the bodies follow .. in order, without gaps", the first at the offset o
unfoldable pub pairs : ℕ → List (List ℕ) → List ℕ
pairs o [] = []
pairs o (b ∷ bs) = le 4 o ++ (le 4 (length b) ++ pairs (o + length b) bs)

-- how many sections the tables of an edition have, by its number; 0 for an edition that there is not. "Bytes 0-1: edition 1. Bytes 2-3: 8"; W-205: "edition 2
-- with ten sections"
abbrev pub sections_of : ℕ → ℕ
sections_of e = get_or (0 ∷ 8 ∷ 10 ∷ []) e 0

-- "New tables are in the newest edition"
abbrev pub newest : ℕ
newest = 2

-- "the bodies follow the last pair": from byte 68 in edition 1, from byte 84 in edition 2
abbrev pub first_body : ℕ → ℕ
first_body e = 4 + 8 * sections_of e

-- a table of an edition and its bodies
abbrev pub layout : ℕ → List (List ℕ) → List ℕ
layout e bs = le 2 e ++ (le 2 (sections_of e) ++ (pairs (first_body e) bs ++ joined bs))

-- the table of an image in an edition
unfoldable pub encode : ℕ → Image → List ℕ
encode e i = layout e (take (sections_of e) (bodies i))
