-- `soundness::sound` meets its contract: a table whose names are counted is sound. Assumes nothing.
use mathlib.Core.Path.{◌∙◌}
use Rattle.soundness.proofs.AnswerLaws.{tells-sound}
use Rattle.soundness.proofs.sound.Goals as goal

pub returns : goal.returns
returns c = c.is_some.ensures ∙ tells-sound _ _ c.count.ensures
