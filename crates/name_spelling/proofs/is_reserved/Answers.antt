-- `name_spelling::is_reserved` meets its contract. Assumes nothing.
use mathlib.Core.Path.{ap, ◌∙◌}
use Rattle.policy.specs.Words.{is_reserved}
use Rattle.name_spelling.proofs.is_reserved.Goals as goal

pub returns : goal.returns
returns c = c.has_reserved_part.ensures ∙ ap is_reserved c.part.ensures
