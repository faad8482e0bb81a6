-- `roll_lines::set_at` meets its contract. Assumes nothing.
use mathlib.Core.Path.{ap, ◌∙◌}
use Rattle.policy.specs.Deciding.{Reply}
use Rattle.policy.specs.Questions.{Part}
use Rattle.table_parts.specs.ShownPart.{shown_part}
use Rattle.roll_lines.proofs.set_at.Goals as goal

pub returns : goal.returns
returns c =
    c.part_at.ensures ∙ ap (λ (r : Reply Part). shown_part r c.args.table.now) (c.entry_place_in_sound-place.ensures c.requires)
