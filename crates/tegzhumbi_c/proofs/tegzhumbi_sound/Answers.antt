-- `tegzhumbi_sound` meets its contract. Assumes nothing.
use mathlib.Core.Path.{refl, sym}
use Rattle.tegzhumbi_c.proofs.tegzhumbi_sound.Goals as goal

pub returns-then-sound : goal.returns-then-sound
returns-then-sound c = rw (sym c.sound.ensures, c.if-sound.true) refl

pub returns : goal.returns
returns c = rw (sym c.sound.ensures, c.if-sound.false) refl
