-- A table that is found sound holds an image, another holds none; the names in body 1 are the image's. Assumes nothing.
use Prim.Native.Nat.{ℕ, ◌-◌}
use native.Mathlib.Omega.{arith}
use mathlib.Core.Path.{◌≡◌, refl, sym, ap, ◌∙◌}
use mathlib.Core.Bool.{true, false, false≢true}
use mathlib.Core.List.{List}
use mathlib.Core.Option.{Option, none, some}
use lib.ListN.{length, take}
use lib.Seq.{take_at}
use Rattle.bitset.specs.Relations.{joined}
use Rattle.byte_slices.specs.Parts.{part}
use Rattle.policy.specs.Basics.{each}
use Rattle.policy.specs.Statements.{users, roles, types, Sort, thing_of, attribute_of, count, class_names}
use Rattle.policy.specs.Image.{Image}
use Rattle.policy.specs.Encode.{sort_code, entry_bytes, entries, bodies}
use Rattle.policy.specs.Sound.{image_in}
use Rattle.symbols.specs.Section.{between}
use Rattle.symbols.specs.Lookup.{count_sort}
use Rattle.symbols.proofs.HeldEntries.{entries-written}
use Rattle.symbols.proofs.CountLaws.{count-things, count-classes}
use Rattle.sound_names.specs.SoundNames.{counts_of}
use Rattle.sound_constraints.specs.SoundRows.{is_some}
use Rattle.table_laws.specs.SoundTable.{Bytes, Sound}
use Rattle.table_laws.proofs.SoundLaws.{read-sound}
use Rattle.table_laws.proofs.WellFormedLaid.{well-formed-laid}
use Rattle.table_reader.proofs.RecordLaws.{Stands}
use Rattle.table_reader.proofs.SoundPlaces.{length-of, stands_of}
use Rattle.table_names.specs.TableNames.{names_start, names_end, names_in, count_in, counts_in}
use Rattle.soundness.specs.IsSound.{is_sound}

-- a sound table holds an image
pub sound-table : (t : List ℕ) → Bytes t → is_sound t ≡ true → Sound t
unfolding is_sound
sound-table t b h = by (image_in t) refl h
  where
    by : (o : Option Image) → image_in t ≡ o → is_some o ≡ true → Sound t
    by none e h = absurd (false≢true h)
    by (some i) e h = (read-sound t b i e).0

-- and one that is not sound holds none
pub no-image : (t : List ℕ) → is_sound t ≡ false → image_in t ≡ none
unfolding is_sound
no-image t h = by (image_in t) h
  where
    by : (o : Option Image) → is_some o ≡ false → o ≡ none
    by none e = refl
    by (some i) e = absurd (false≢true (sym e))

module _ (t : List ℕ) (s : Sound t) where
  names_stand : between t (names_start t) (names_end t) ≡ joined (each entry_bytes (entries s.image.names))
  unfolding bodies part
  names_stand =
      let body = joined (each entry_bytes (entries s.image.names)) in
      let stands : Stands t (names_start t) body = stands_of t s 0 in
      let long : names_end t - names_start t ≡ length body = omega (arith, length-of t s 0 s.known) in
      ap (λ (n : ℕ). part t (names_start t) n) long
      ∙ ap (take (length body)) stands.here ∙ take_at body stands.rest (length body) refl

  -- the entries are those of the image's declarations
  pub names-of : names_in t ≡ entries s.image.names
  names-of = entries-written t (names_start t) (names_end t) (entries s.image.names) (well-formed-laid s.image s.formed).numbers names_stand

  pub things-of : (x : Sort) → count_in t (sort_code x) ≡ count x s.image.names
  things-of x = ap (count_sort (sort_code x)) names-of ∙ count-things x s.image.names

  pub classes-of : count_in t 6 ≡ length (class_names s.image.names)
  classes-of = ap (count_sort 6) names-of ∙ count-classes s.image.names

  -- the counts of the names in the bytes are those of the image
  pub counts_of_lem : counts_of s.image.names ≡ counts_in t
  counts_of_lem =
      rw (
        things-of (thing_of users),
        things-of (thing_of roles),
        things-of (thing_of types),
        things-of (attribute_of users),
        things-of (attribute_of roles),
        things-of (attribute_of types),
        classes-of,
      )
