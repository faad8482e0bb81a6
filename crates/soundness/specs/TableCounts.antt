-- What the count of a table's names tells: nothing where the table is not sound, else what body 1 declares. Assumes nothing.
use Rattle.std.specs.Prelude.{ℕ, ◌≡◌, true, false, List, [], Option, None}
use Rattle.byte_slices.specs.Parts.{part}
use Rattle.policy.specs.declared.NameCounts.{NameCounts}
use Rattle.sound_names.specs.SoundNames.{sound_names, counted_of, permissions_after}
use Rattle.table_reader.specs.Records.{start_in, length_in}
use Rattle.soundness.specs.IsSound.{is_sound}

pub record Tells (t : List ℕ) (r : Option NameCounts) (ps : List ℕ) : Type 0 where
  pub refuses : is_sound t ≡ false → r ≡ None
  pub counts : is_sound t ≡ true → (r ≡ counted_of (sound_names (part t (start_in t 0) (length_in t 0)))) × (ps ≡ permissions_after (sound_names (part t (start_in t 0) (length_in t 0))) [])
