-- `tegzhumbi::valid` meets its contract. Assumes nothing.
use mathlib.Core.Path.{ap, ◌∙◌}
use Rattle.policy.specs.Questions.{valid_on}
use Rattle.tegzhumbi.proofs.valid.Goals as goal

pub returns : goal.returns
returns c = c.valid.ensures ∙ ap (valid_on c.args.table.now) c.asked-c.ensures
