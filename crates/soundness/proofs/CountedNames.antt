-- What the count of a table's names tells is what the image of the table declares. Assumes nothing.
use Prim.Native.Nat.{ℕ}
use mathlib.Core.Path.{◌≡◌, sym, ap, ◌∙◌}
use mathlib.Core.Bool.{true}
use mathlib.Core.List.{List, []}
use mathlib.Core.Option as maybe
use Rattle.std.specs.Prelude.{Option, Some}
use Rattle.byte_slices.specs.Parts.{part}
use Rattle.policy.specs.Statements.{Declaration}
use Rattle.policy.specs.declared.NameCounts.{NameCounts}
use Rattle.sound_names.specs.SoundNames.{sound_names, counts_of, permission_counts, permissions_after}
use Rattle.sound_names.proofs.Answers.{answered-sound}
use Rattle.table_reader.specs.Records.{start_in, length_in}
use Rattle.sound_bodies.proofs.SoundImage.{image-names}
use Rattle.table_laws.specs.SoundTable.{Bytes, Sound}
use Rattle.table_laws.proofs.SoundLaws.{sound-read}
use Rattle.table_names.specs.TableNames.{counts_in}
use Rattle.soundness.specs.IsSound.{is_sound}
use Rattle.soundness.specs.TableCounts.{Tells}
use Rattle.soundness.proofs.AnswerLaws.{sound-by}
use Rattle.soundness.proofs.SoundTable.{sound-table, counts_of_lem}

module _ (t : List ℕ) (bytes : Bytes t) {ps : List ℕ} {r : Option NameCounts} (h : Tells t r ps) {n : NameCounts} (is : r ≡ Some n) where
  pub is-sound : is_sound t ≡ true
  is-sound = sym (sound-by t ps h is)

  -- the table as one that holds an image
  pub counted-table : Sound t
  counted-table = sound-table t bytes is-sound

  abbrev held : List Declaration
  held = counted-table.image.names

  names : sound_names (part t (start_in t 0) (length_in t 0)) ≡ maybe.some held
  names = image-names t counted-table.image (sound-read t counted-table)

  -- the names that were counted are those of the image
  pub counted-names : n ≡ counts_of held
  counted-names =
      let named = answered-sound n (sound_names (part t (start_in t 0) (length_in t 0))) (sym is ∙ (h.counts is-sound).0) in
      named.counts ∙ ap counts_of (maybe.some-injective named.names held (sym named.are ∙ names))

  pub counted-permissions : ps ≡ permission_counts held
  counted-permissions = (h.counts is-sound).1 ∙ ap (λ (o : maybe.Option (List Declaration)). permissions_after o []) names

  pub counts-are : n ≡ counts_in t
  counts-are = counted-names ∙ counts_of_lem t counted-table
