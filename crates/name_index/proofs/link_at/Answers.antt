-- `name_index::link_at` meets its contract. Assumes nothing.
use mathlib.Core.Path.{ap, ◌∙◌}
use native.Mathlib.Omega.{arith}
use Rattle.name_index.specs.Index.{link_in}
use Rattle.name_index.proofs.ChainLaws.{link_fits}
use Rattle.name_index.proofs.link_at.Goals as goal

pub returns : goal.returns
returns c =
    (c.link_in.ensures ∙ ap link_in c.word.ensures, link_fits c.link_in.ensures (omega (arith, c.word.type_inv)))
