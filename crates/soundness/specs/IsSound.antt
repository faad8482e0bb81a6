-- Document 01: "A table is **sound** when this layout holds exactly, counts agree with section 1 and the maxima, names are good, ..": the
-- bytes hold an image. Assumes nothing.
use Rattle.std.specs.Prelude.{ℕ, Bool, List}
use Rattle.policy.specs.Sound.{image_in}
use Rattle.sound_constraints.specs.SoundRows.{is_some}

-- "A table is **sound** when ..": fault 11 where it is not
unfoldable pub is_sound : List ℕ → Bool
is_sound t = is_some (image_in t)
