-- The summary of a sound table, in numbers, by what its names declare. Assumes nothing.
use Rattle.std.specs.Prelude.{ℕ, ◌≡◌, List, ◌∷◌, length, get_or, Option, Some}
use Rattle.std.proofs.Math.Option as maybe
use Rattle.lexer.specs.Spell.{bytes}
use Rattle.policy.specs.Basics.{Name, index_of}
use Rattle.policy.specs.Statements.{users, roles, types, thing_of, attribute_of, Declaration, names_of, count, class_names, permissions}
use Rattle.policy.specs.Words.{object_r, process_word}
use Rattle.policy.specs.Maxima.{max_of, max_classes, max_permissions}
use Rattle.policy.specs.Image.{Image}
use Rattle.policy.specs.Sound.{image_in}
use Rattle.policy.specs.declared.NameCounts.{NameCounts}
use Rattle.sound_names.specs.SoundNames.{permission_counts}
use Rattle.table_names.specs.declared.SpecialNumbers.{SpecialNumbers}

-- the place of a name; m, which nothing has, where it is not there
abbrev pub place_or : ℕ → Name → List Name → ℕ
place_or m w ws = elim (index_of w ws) [ maybe.some k ↦ k | maybe.none ↦ m ]

-- W-203: "Only the full names `process` and `object_r` are treated apart", and permissions "`transition` or `dyntransition`" of that class
abbrev pub process_of : List Declaration → ℕ
process_of ds = place_or max_classes process_word (class_names ds)

abbrev pub special_of : List Declaration → SpecialNumbers
special_of ds = record {
  object = place_or (max_of (thing_of roles)) object_r (names_of (thing_of roles) ds);
  process = process_of ds;
  transition = place_or max_permissions (bytes "transition") (permissions ds (process_of ds));
  dyntransition = place_or max_permissions (bytes "dyntransition") (permissions ds (process_of ds));
}

-- how many there are of each sort, in the order of the sorts' numbers; the names treated apart; how many permissions each of 32 classes has
unfoldable pub summary_of : List Declaration → List ℕ
summary_of ds =
    count (thing_of users) ds ∷ count (thing_of roles) ds ∷ count (thing_of types) ds
    ∷ count (attribute_of users) ds ∷ count (attribute_of roles) ds ∷ count (attribute_of types) ds ∷ length (class_names ds)
    ∷ (special_of ds).object ∷ (special_of ds).process ∷ (special_of ds).transition ∷ (special_of ds).dyntransition
    ∷ permission_counts ds

-- the lent numbers afterwards, by those before: bytes that are no sound table leave them
abbrev pub summary_after : maybe.Option Image → List ℕ → List ℕ
summary_after maybe.none before = before
summary_after (maybe.some i) before = summary_of i.names

-- s is the summary of t, which is a sound table
pub record Summarized (t s : List ℕ) : Type 0 where
  pub image : Image
  pub read : image_in t ≡ maybe.some image
  pub numbers : s ≡ summary_of image.names

-- the numbers by what they say
abbrev pub counts_from : List ℕ → NameCounts
counts_from s = record {
  users = get_or s 0 0;
  roles = get_or s 1 0;
  types = get_or s 2 0;
  user_attributes = get_or s 3 0;
  role_attributes = get_or s 4 0;
  type_attributes = get_or s 5 0;
  classes = get_or s 6 0;
}

abbrev pub special_from : List ℕ → Option SpecialNumbers
special_from s = Some (record { object = get_or s 7 0; process = get_or s 8 0; transition = get_or s 9 0; dyntransition = get_or s 10 0 })
