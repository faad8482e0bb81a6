-- `mentions::is_empty` meets its contract: a row all of whose numbers are below 0 has none. Assumes nothing.
use mathlib.Core.Path.{sym, ◌∙◌}
use Rattle.mentions.proofs.ClosureLaws.{through_empty}
use Rattle.mentions.proofs.is_empty.Goals as goal

pub returns : goal.returns
returns c = λ e. through_empty _ _ (λ i. (c.shared_slice_known-1.given i).fits) (sym c.is_within_at.ensures ∙ e)
