-- `symbols::same` meets its contract: it lends the two parts. Assumes nothing.
use mathlib.Core.Path.{ap₂, ◌∙◌}
use Rattle.policy.specs.Basics.{same}
use Rattle.symbols.proofs.SameLaws.{pointwise-same}
use Rattle.symbols.proofs.same.Goals as goal

pub returns : goal.returns
returns c = c.eq.ensures ∙ pointwise-same _ _ ∙ ap₂ same c.part.ensures c.part-2.ensures
