-- The questions name-of and entry on a sound table show what its image has; on any other bytes every question is refused with 11.
-- Assumes nothing.
use Prim.Native.Nat.{ℕ}
use mathlib.Core.Path.{◌≡◌, ap, ◌∙◌}
use mathlib.Core.List.{List}
use lib.ListN.{get_elem?}
use Rattle.policy.specs.Image.{Image}
use Rattle.policy.specs.Sound.{edition_in, image_in}
use Rattle.policy.specs.Deciding.{Reply}
use Rattle.policy.specs.Questions.{asked, name_of, name_on, entry_of, entry_on}
use Rattle.table_laws.specs.SoundTable.{Sound}
use Rattle.table_laws.specs.Shown.{shown, or_twelve, name_in, records_in}
use Rattle.table_laws.proofs.SoundLaws.{sound-read, sound-edition}
use Rattle.table_laws.proofs.EntryShown.{entry-shown}
use Rattle.table_laws.proofs.NameShown.{name-shown}

-- "Each tries 11": a question on a sound table is one on its image, and on other bytes it is refused
module _ {A : Type 0} (f : Image → Reply A) (t : List ℕ) where
  pub asked-sound : (s : Sound t) → asked f (image_in t) ≡ f s.image
  asked-sound s = ap (asked f) (sound-read t s)

-- the bytes of the part that name-of answers are the name
pub name-on : (t : List ℕ) (s : Sound t) (sort n : ℕ) → shown t (name_on t sort n) ≡ or_twelve (name_in s.image.names sort n)
unfolding name_on
name-on t s sort n =
    ap (shown t) (asked-sound (λ i. name_of (edition_in t) i sort n) t s ∙ ap (λ (e : ℕ). name_of e s.image sort n) (sound-edition t s))
    ∙ ap (λ (t : List ℕ). shown t (name_of s.edition s.image sort n)) s.laid
    ∙ name-shown s.edition s.image s.known s.fits s.formed s.rest sort n

-- the bytes of the part that entry answers are the record
pub entry-on : (t : List ℕ) (s : Sound t) (b k : ℕ) → shown t (entry_on t b k) ≡ or_twelve (get_elem? (records_in s.image b) k)
unfolding entry_on
entry-on t s b k =
    ap (shown t) (asked-sound (λ i. entry_of (edition_in t) i b k) t s ∙ ap (λ (e : ℕ). entry_of e s.image b k) (sound-edition t s))
    ∙ ap (λ (t : List ℕ). shown t (entry_of s.edition s.image b k)) s.laid
    ∙ entry-shown s.edition s.image s.known s.fits s.formed s.rest b k
