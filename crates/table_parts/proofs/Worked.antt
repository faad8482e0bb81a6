-- The questions name of and entry on tables, worked out by hand: the printed roll in both editions, one attribute of each family, and two
-- validatetrans statements. Assumes nothing.
use Prim.Native.Nat.{ℕ}
use mathlib.Core.Path.{◌≡◌, refl}
use mathlib.Core.Bool.{true, false}
use mathlib.Core.List.{List, [], ◌∷◌}
use mathlib.Core.Option.{none, some}
use lib.ListN.{drop, replicate}
use Rattle.byte_slices.specs.Parts.{part}
use Rattle.lexer.specs.Spell.{bytes}
use Rattle.policy.specs.Encode.{encode}
use Rattle.policy.specs.Sound.{image_in}
use Rattle.policy.specs.Deciding.{Reply, answered, refused}
use Rattle.policy.specs.Questions.{Part, name_on, entry_on}
use Rattle.policy.specs.Worked.{roll_text, table_of}
use Rattle.policy.specs.Computing.{computing}
use Rattle.soundness.specs.IsSound.{is_sound}
use Rattle.table_parts.specs.ShownPart.{shown_part}

abbrev roll : List ℕ
roll = table_of roll_text

-- a role, an attribute of each family, the last family first, and the set of the second
abbrev attributes : List ℕ
attributes = table_of (bytes "(role a)(typeattribute z)(roleattribute y)(userattribute x)(roleattributeset y (a))")

-- two validatetrans statements, the first of one row and the second of three
abbrev statements : List ℕ
statements = table_of (bytes "(class c (p))(user u)(validatetrans c (eq u1 u2))(validatetrans c (or (eq u3 u) (neq t1 t2)))")

-- the printed roll in edition 1, as it was compiled before W-205
abbrev early : List ℕ
early = elim (image_in roll) [ none ↦ [] | some i ↦ encode 1 i ]

abbrev at : ℕ → ℕ → Reply Part
at o w = answered (record { start = o; size = w })

pub record Worked : Type 0 where
  pub sound : is_sound roll ≡ true
  pub cut : is_sound (drop 1 roll) ≡ false
  -- the names start at 84, each of one byte after four
  pub role-b : name_on roll 1 1 ≡ at 98 1
  pub role-b-shown : shown_part (name_on roll 1 1) roll ≡ bytes "b"
  pub no-role : name_on roll 1 2 ≡ refused 12 0
  pub no-sort : name_on roll 8 0 ≡ refused 12 0
  pub no-name-shown : shown_part (name_on roll 1 2) roll ≡ []
  -- body 2 starts at 104, body 3 at 120
  pub roles-of-u : entry_on roll 2 0 ≡ at 104 16
  pub types-of-b : entry_on roll 3 1 ≡ at 184 64
  pub types-of-a-shown : shown_part (entry_on roll 3 0) roll ≡ 1 ∷ replicate 63 0
  pub no-entry : entry_on roll 2 1 ≡ refused 12 0
  pub no_body : (entry_on roll 1 0 ≡ refused 12 0) × (entry_on roll 11 0 ≡ refused 12 0)
  -- 11 before 12
  pub not_sound : (name_on (drop 1 roll) 8 0 ≡ refused 11 0) × (entry_on (drop 1 roll) 11 0 ≡ refused 11 0)
  -- "in body 8 userattributes come first, then roleattributes, then typeattributes", whatever their order in the text
  pub set-of-x : entry_on attributes 8 0 ≡ at 184 16
  pub set-of-y : entry_on attributes 8 1 ≡ at 200 16
  pub set-of-y-shown : shown_part (entry_on attributes 8 1) attributes ≡ 1 ∷ replicate 15 0
  pub set-of-z : entry_on attributes 8 2 ≡ at 216 64
  pub no-set : entry_on attributes 8 3 ≡ refused 12 0
  -- body 9 is after the names of 15 bytes and one set of roles: class and row count, 2 bytes each; then the rows of body 10
  pub statement : (entry_on statements 9 1 ≡ at 119 4) × (shown_part (entry_on statements 9 1) statements ≡ 0 ∷ 0 ∷ 3 ∷ 0 ∷ [])
  pub no-statement : entry_on statements 9 2 ≡ refused 12 0
  pub row : (entry_on statements 10 1 ≡ at 129 6) × (shown_part (entry_on statements 10 1) statements ≡ 4 ∷ 6 ∷ 0 ∷ 0 ∷ 0 ∷ 0 ∷ [])
  pub no_row : entry_on statements 10 4 ≡ refused 12 0
  -- a table of edition 1: its names start at 68, and it has no bodies 9 and 10
  pub early-sound : is_sound early ≡ true
  pub early-role-b : (name_on early 1 1 ≡ at 82 1) × (shown_part (name_on early 1 1) early ≡ bytes "b")
  pub early-roles-of-u : entry_on early 2 0 ≡ at 88 16
  pub early-no-body : (entry_on early 9 0 ≡ refused 12 0) × (entry_on early 10 0 ≡ refused 12 0)

pub worked : Worked
unfolding computing is_sound part
worked = record {
  sound = refl;
  cut = refl;
  role-b = refl;
  role-b-shown = refl;
  no-role = refl;
  no-sort = refl;
  no-name-shown = refl;
  roles-of-u = refl;
  types-of-b = refl;
  types-of-a-shown = refl;
  no-entry = refl;
  no_body = (refl, refl);
  not_sound = (refl, refl);
  set-of-x = refl;
  set-of-y = refl;
  set-of-y-shown = refl;
  set-of-z = refl;
  no-set = refl;
  statement = (refl, refl);
  no-statement = refl;
  row = (refl, refl);
  no_row = refl;
  early-sound = refl;
  early-role-b = (refl, refl);
  early-roles-of-u = refl;
  early-no-body = (refl, refl);
}
