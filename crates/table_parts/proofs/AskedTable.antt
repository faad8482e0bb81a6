-- The questions name of and entry on a table: a sound one answers what its image says, and other bytes are refused by 11. Assumes nothing.
use Prim.Native.Nat.{ℕ}
use mathlib.Core.Path.{◌≡◌, sym, ap, ap₂, ◌∙◌}
use mathlib.Core.Bool.{false}
use mathlib.Core.List.{List}
use mathlib.Core.Option.{Option}
use Rattle.policy.specs.Image.{Image}
use Rattle.policy.specs.Encode.{NameEntry}
use Rattle.policy.specs.Sound.{edition_in, image_in}
use Rattle.policy.specs.Deciding.{Reply, refused}
use Rattle.policy.specs.Questions.{name_from, name_on, name_of, entry_on, entry_of, asked}
use Rattle.table_laws.specs.SoundTable.{Sound}
use Rattle.table_laws.proofs.SoundLaws.{sound-read, sound-edition}
use Rattle.table_reader.proofs.SoundPlaces.{first_of}
use Rattle.table_names.specs.TableNames.{name_at}
use Rattle.soundness.specs.IsSound.{is_sound}
use Rattle.soundness.proofs.SoundTable.{no-image, names-of}

-- "Each tries 11": the questions on a table that is not sound
module _ (t : List ℕ) (h : is_sound t ≡ false) where
  pub name-unsound : (s n : ℕ) → refused 11 0 ≡ name_on t s n
  unfolding name_on
  name-unsound s n = sym (ap (asked (λ i. name_of (edition_in t) i s n)) (no-image t h))

  pub entry-unsound : (b k : ℕ) → refused 11 0 ≡ entry_on t b k
  unfolding entry_on
  entry-unsound b k = sym (ap (asked (λ i. entry_of (edition_in t) i b k)) (no-image t h))

module _ (t : List ℕ) (s : Sound t) where
  -- a sound table is asked by its edition and its image
  pub asked-sound : {A : Type 0} (f : ℕ → Image → Reply A) → f s.edition s.image ≡ asked (f (edition_in t)) (image_in t)
  asked-sound {A} f =
      ap (λ (e : ℕ). f e s.image) (sym (sound-edition t s)) ∙ ap (λ (o : Option Image). asked (f (edition_in t)) o) (sym (sound-read t s))

  -- name of, asked of the bytes of body 1
  pub name-sound : (x n : ℕ) → name_at t x n ≡ name_on t x n
  unfolding name_on name_of
  name-sound x n =
      ap₂ (λ (o : ℕ) (es : List NameEntry). name_from x n o es) (first_of t s) (names-of t s) ∙ asked-sound (λ e i. name_of e i x n)
