-- Document 01: "A table is **sound** when this layout holds exactly, counts agree with section 1 and the maxima, .. no bit or index names
-- something undeclared, masks are not 0, constraints take up the rows in order with none left, and each constraint's rows, at least one,
-- leave between 1 and 5 on the stack after every row and 1 after the last": what this says of the bodies after the first in the bytes
-- of any table, where the names of body 1 are known by their numbers alone. Bytes past the end read 0. Assumes nothing.
use Rattle.std.specs.Prelude.{ℕ, zero, suc, ◌+◌, ◌*◌, ◌/◌, Bool, ◌&&◌, ◌||◌, cond, List, eqb, leb, ltb, take, drop, Option, Some, None}
use Rattle.bitset.specs.Sets.{within}
use Rattle.policy.specs.Basics.{each, every, unle}
use Rattle.policy.specs.Statements.{Family, users, roles, types}
use Rattle.policy.specs.Maxima.{max_transitions, max_constraints, max_rows, max_relabels, max_relabel_rows}
use Rattle.policy.specs.Image.{TransitionEntry}
use Rattle.policy.specs.Encode.{sections_of}
use Rattle.policy.specs.Sound.{edition_in, pieces, transition_at, constraint_at, relabel_at}
use Rattle.table_reader.specs.Records.{start_in, length_in}
use Rattle.sound_constraints.specs.Totals.{Totals}
use Rattle.sound_bodies.specs.declared.Run.{Run}
use Rattle.sound_constraints.specs.SoundRows.{constraints_fit, relabels_fit}

-- THE LAYOUT

-- "the bodies follow the last pair": where they start after k pairs
abbrev pub header_bytes : ℕ → ℕ
header_bytes k = 4 + 8 * k

-- k pairs of offset and length from the front of t on: each offset is where the body before ends, the first being o, and the last body
-- ends within n bytes
unfoldable pub follow : ℕ → ℕ → ℕ → List ℕ → Bool
follow zero o n t = leb o n
follow (suc k) o n t = eqb (unle (take 4 t)) o && follow k (o + unle (take 4 (drop 4 t))) n (drop 8 t)

-- SETS: bodies 2, 3, 4 and 8

-- "no bit .. names something undeclared": so many sets of w bytes from the front of t on
abbrev pub sets_within : ℕ → ℕ → ℕ → List ℕ → Bool
sets_within n w total t = every (within total) (pieces n w t)

-- body k is n sets of w bytes, each within total
abbrev pub sets_sound : ℕ → ℕ → ℕ → ℕ → List ℕ → Bool
sets_sound k n w total t = eqb (length_in t k) (n * w) && sets_within n w total (drop (start_in t k) t)

-- the roles of users, and the types and roles of roles
abbrev pub relations_sound : (Family → ℕ) → List ℕ → Bool
relations_sound things t =
    sets_sound 1 (things users) 16 (things roles) t
    && sets_sound 2 (things roles) 64 (things types) t
    && sets_sound 3 (things roles) 16 (things roles) t

-- RECORDS: bodies 5, 6, 7, 9 and 10

-- body k is records of w bytes, at most so many
abbrev pub has_records : ℕ → ℕ → ℕ → List ℕ → Bool
has_records k w most t = eqb (length_in t k) (length_in t k / w * w) && leb (length_in t k / w) most

-- where they start, and how many there are
abbrev pub run_of : ℕ → ℕ → ℕ → List ℕ → Option Run
run_of k w most t = cond (has_records k w most t) (Some record { start = start_in t k; count = length_in t k / w }) None

-- TRANSITIONS: body 5

module _ (things : Family → ℕ) (classes : ℕ) where
  abbrev pub fits_transition : TransitionEntry → Bool
  fits_transition m = within (things roles) m.roles && within (things types) m.types && ltb m.class classes && ltb m.new (things roles)

  -- n transitions from the front of t on
  abbrev pub transitions_fit : ℕ → List ℕ → Bool
  transitions_fit n t = every fits_transition (each transition_at (pieces n 82 t))

  abbrev pub transitions_sound : List ℕ → Bool
  transitions_sound t = has_records 4 82 max_transitions t && transitions_fit (length_in t 4 / 82) (drop (start_in t 4) t)

-- CONSTRAINTS: bodies 6 and 7

abbrev pub constraints_sound : Totals → List ℕ → Bool
constraints_sound n t =
    has_records 5 10 max_constraints t && has_records 6 6 max_rows t
    && constraints_fit n (each constraint_at (pieces (length_in t 5 / 10) 10 (drop (start_in t 5) t))) (pieces (length_in t 6 / 6) 6 (drop (start_in t 6) t))

-- ATTRIBUTES: body 8, "Sets of userattributes, roleattributes, typeattributes: 16, 16, 64 each"

abbrev pub attributes_sound : (Family → ℕ) → (Family → ℕ) → List ℕ → Bool
attributes_sound things attributes t =
    let ua = 16 * attributes users in
    let ra = 16 * attributes roles in
    eqb (length_in t 7) (ua + ra + 64 * attributes types)
    && sets_within (attributes users) 16 (things users) (drop (start_in t 7) t)
    && sets_within (attributes roles) 16 (things roles) (drop (start_in t 7 + ua) t)
    && sets_within (attributes types) 64 (things types) (drop (start_in t 7 + ua + ra) t)

-- VALIDATETRANS STATEMENTS: bodies 9 and 10, W-205: "Readers take edition 1 as having none"

abbrev pub relabels_sound : Totals → List ℕ → Bool
relabels_sound n t =
    leb (sections_of (edition_in t)) 8
    || has_records 8 4 max_relabels t && has_records 9 6 max_relabel_rows t
    && relabels_fit n (each relabel_at (pieces (length_in t 8 / 4) 4 (drop (start_in t 8) t))) (pieces (length_in t 9 / 6) 6 (drop (start_in t 9) t))

-- ALL OF THEM

unfoldable pub bodies_sound : Totals → List ℕ → Bool
bodies_sound n t =
    relations_sound n.things t
    && transitions_sound n.things n.classes t
    && constraints_sound n t
    && attributes_sound n.things n.attributes t
    && relabels_sound n t
