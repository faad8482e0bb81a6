-- `image_in` succeeds exactly on the sound tables, and gives the one image of each. Assumes nothing.
use Prim.Native.Nat.{ℕ, ◌<◌}
use mathlib.Core.Path.{◌≡◌, refl, sym, ap, ap₂, ◌∙◌}
use mathlib.Core.Logic.{◌↔◌}
use mathlib.Core.Bool.{true}
use mathlib.Core.List.{List, ◌++◌, append_cancel_left}
use mathlib.Core.Option.{Option, none, some, none-ne-some, some-injective}
use Rattle.policy.specs.Image.{Image}
use Rattle.policy.specs.Encode.{sections_of, encode}
use Rattle.policy.specs.Sound.{edition_in, well_formed, image_in}
use Rattle.table_laws.specs.SoundTable.{Bytes, FitsEdition, Sound}
use Rattle.table_laws.proofs.LayoutLaws.{table-edition}
use Rattle.table_laws.proofs.ImageOnly.{table-only}
use Rattle.table_laws.proofs.WellFormedLaid.{table-back}

-- a sound table is read as its image
pub sound-read : (t : List ℕ) (s : Sound t) → image_in t ≡ some s.image
sound-read t s = ap image_in s.laid ∙ table-back s.image s.formed s.edition s.known s.fits s.rest

-- and its edition is the one that its first bytes say
pub sound-edition : (t : List ℕ) (s : Sound t) → edition_in t ≡ s.edition
sound-edition t s = ap edition_in s.laid ∙ table-edition s.edition s.image s.rest s.known

-- bytes that are read as an image are a sound table, and its image is that one
pub read-sound : (t : List ℕ) → Bytes t → (i : Image) → image_in t ≡ some i → (s : Sound t) × (s.image ≡ i)
read-sound t b i h =
    let o = table-only t b i h in
    (record { edition = edition_in t; known = o.known; image = i; formed = o.formed; fits = o.fits; rest = o.rest; laid = o.laid }, refl)

-- A TABLE IS SOUND EXACTLY WHEN IT IS READ AS AN IMAGE, namely as its own
pub sound-exactly : (t : List ℕ) → Bytes t → (i : Image) → image_in t ≡ some i ↔ ((s : Sound t) × (s.image ≡ i))
sound-exactly t b i = (read-sound t b i, λ p. sound-read t p.0 ∙ ap some p.1)

-- fault 11: nothing is read exactly where no table is sound
pub unsound-exactly : (t : List ℕ) → Bytes t → image_in t ≡ none ↔ (Sound t → ⊥)
unsound-exactly t b = (λ h s. none-ne-some s.image (sym h ∙ sound-read t s), λ n. by n (image_in t) refl)
  where
    by : (Sound t → ⊥) → (o : Option Image) → image_in t ≡ o → image_in t ≡ none
    by n none e = e
    by n (some i) e = absurd (n (read-sound t b i e).0)

-- THE IMAGE OF A SOUND TABLE IS THE ONLY ONE, and so are its edition and what is after it
pub sound-image : (t : List ℕ) (a b : Sound t) → a.image ≡ b.image
sound-image t a b = some-injective a.image b.image (sym (sound-read t a) ∙ sound-read t b)

pub sound-rest : (t : List ℕ) (a b : Sound t) → a.rest ≡ b.rest
sound-rest t a b =
    let edition : b.edition ≡ a.edition = sym (sound-edition t b) ∙ sound-edition t a in
    append_cancel_left (encode a.edition a.image) a.rest b.rest
    (sym a.laid ∙ b.laid ∙ ap₂ (λ (e : ℕ) (i : Image). encode e i ++ b.rest) edition (sym (sound-image t a b)))

-- what is written for a well-formed image in an edition that it fits is sound, whatever is after it
pub encode-sound : (e : ℕ) (i : Image) → 0 < sections_of e → FitsEdition e i → well_formed i ≡ true → (rest : List ℕ) → Sound (encode e i ++ rest)
encode-sound e i known fits h rest = record { edition = e; known = known; image = i; formed = h; fits = fits; rest = rest; laid = refl }
