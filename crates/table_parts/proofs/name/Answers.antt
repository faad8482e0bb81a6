-- `table_parts::name` meets its contract: the part at the name's place. Assumes nothing.
use mathlib.Core.Path.{ap, ◌∙◌}
use Rattle.policy.specs.Deciding.{Reply}
use Rattle.policy.specs.Questions.{Part}
use Rattle.table_parts.specs.ShownPart.{shown_part}
use Rattle.table_parts.proofs.name.Goals as goal

pub returns : goal.returns
returns c = c.part_at.ensures ∙ ap (λ (r : Reply Part). shown_part r c.args.table.now) c.name_place.ensures
