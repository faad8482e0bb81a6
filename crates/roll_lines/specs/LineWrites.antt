-- Document 01, "The printed roll": its lines, written one after the other for the image that a table holds. Assumes nothing.
use Rattle.std.specs.Prelude.{ℕ, ◌+◌, ◌<◌, ◌≤◌, ◌≡◌, true, List, [], ◌∷◌, length, get_or}
use Rattle.std.proofs.Math.Option.{some}
use Rattle.lexer.specs.Spell.{bytes}
use Rattle.bitset.specs.Relations.{joined}
use Rattle.policy.specs.Basics.{Name}
use Rattle.policy.specs.Statements.{users, roles, thing_of, names_of}
use Rattle.policy.specs.Image.{Image}
use Rattle.policy.specs.Sound.{image_in}
use Rattle.policy.specs.Roll.{decimal, roll_lines, roll_of}
use Rattle.soundness.specs.IsSound.{is_sound}
use Rattle.table_laws.specs.Shown.{records_in}
use Rattle.text_writer.specs.WrittenText.{Appends}

-- the first line: `accepted 264 bytes`
abbrev pub acceptance : ℕ → List ℕ
acceptance n = joined (bytes "accepted " ∷ decimal n ∷ bytes " bytes\n" ∷ [])

-- "sort in 1 byte (0 user, 1 role, ..)": the names of the users, or of the roles
unfoldable pub things_in : Image → ℕ → List Name
things_in i s = get_or (names_of (thing_of users) i.names ∷ names_of (thing_of roles) i.names ∷ []) s []

-- the table is sound, the sort is users or roles, and there is room for a line of at most 97 bytes for each: "Users 128, roles 128"
pub record Printable (t : List ℕ) (sort : ℕ) (kind of out : List ℕ) (at : ℕ) : Type 0 where
  pub sound : is_sound t ≡ true
  pub short : length t ≤ 65536
  pub thing : sort < 2
  pub kind-short : length kind ≤ 5
  pub of-short : length of ≤ 7
  pub room : at + 12416 ≤ length out

-- "by number; each line says how many members its set has", where there are as many sets as things
pub record PutsLines (t : List ℕ) (sort body : ℕ) (kind of before : List ℕ) (at : ℕ) (after : List ℕ) (past : ℕ) : Type 0 where
  pub same : length after ≡ length before
  pub near : past ≤ at + 12416
  pub says : (i : Image) → image_in t ≡ some i → length (things_in i sort) ≡ length (records_in i body)
      → Appends before at (roll_lines kind of (things_in i sort) (records_in i body)) after past

-- "Users first, then roles", after the first line: the roll of the image that a table holds
pub record PutsRoll (t : List ℕ) (n : ℕ) (before after : List ℕ) (past : ℕ) : Type 0 where
  pub says : (i : Image) → image_in t ≡ some i → Appends before 0 (joined (acceptance n ∷ roll_of i ∷ [])) after past
