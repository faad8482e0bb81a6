-- Document 01: "A table is **sound** when this layout holds exactly, ..", said without reading: it is what is written for a well-formed
-- image, and then anything. Assumes nothing.
use Rattle.std.specs.Prelude.{ℕ, ◌+◌, ◌*◌, ◌<◌, ◌≤◌, ◌≡◌, true, List, [], ◌∷◌, ◌++◌, length, get_or}
use Rattle.bitset.specs.Relations.{joined}
use Rattle.policy.specs.Basics.{each, All}
use Rattle.policy.specs.Rows.{Row}
use Rattle.policy.specs.Image.{Image, TransitionEntry}
use Rattle.policy.specs.Encode.{NameEntry, entries, sections_of, first_body, bodies, encode}
use Rattle.policy.specs.Sound.{well_formed}

-- every element is a byte
abbrev pub Bytes : List ℕ → Type 0
Bytes t = All (λ b. b < 256) t

-- W-205: nothing of the image is in a section that tables of the edition do not have
abbrev pub FitsEdition : ℕ → Image → Type 0
FitsEdition e i = (k : ℕ) → sections_of e ≤ k → get_or (bodies i) k [] ≡ []

-- "this layout holds exactly, ..": the bytes of a well-formed image in an edition that there is. "Bytes after the last body are not read"
pub record Sound (t : List ℕ) : Type 0 where
  pub edition : ℕ
  pub known : 0 < sections_of edition
  pub image : Image
  pub formed : well_formed image ≡ true
  pub fits : FitsEdition edition image
  pub rest : List ℕ
  pub laid : t ≡ encode edition image ++ rest

-- the rows of all constraints, in order; those of all validatetrans statements
abbrev pub all_rows : Image → List Row
all_rows i = joined (each (λ c. c.rows) i.constraints)

abbrev pub relabel_rows : Image → List Row
relabel_rows i = joined (each (λ c. c.rows) i.relabels)

-- the bytes of body 1: four before each name
unfoldable pub names_length : List NameEntry → ℕ
names_length [] = 0
names_length (e ∷ es) = 4 + length e.name + names_length es

-- how long a table of an edition is: its header, then each body by the width of its entries
unfoldable pub table_length : ℕ → Image → ℕ
table_length e i =
    first_body e + names_length (entries i.names) + 16 * length i.user_roles + 64 * length i.role_types + 16 * length i.role_roles
    + 82 * length i.transitions + 10 * length i.constraints + 6 * length (all_rows i)
    + 16 * length i.user_sets + 16 * length i.role_sets + 64 * length i.type_sets
    + 4 * length i.relabels + 6 * length (relabel_rows i)

-- every set of an image is bytes
pub record SetsOfBytes (i : Image) : Type 0 where
  pub user_roles : All Bytes i.user_roles
  pub role_types : All Bytes i.role_types
  pub role_roles : All Bytes i.role_roles
  pub transitions : All (λ (m : TransitionEntry). Bytes m.roles × Bytes m.types) i.transitions
  pub user_sets : All Bytes i.user_sets
  pub role_sets : All Bytes i.role_sets
  pub type_sets : All Bytes i.type_sets
