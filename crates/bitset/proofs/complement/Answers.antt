-- `bitset::complement` meets its contract: what was not in the set, cut at the total. Assumes nothing.
use mathlib.Core.Path.{ap, ◌∙◌}
use Rattle.bitset.proofs.KeptLaws.{complement-kept}
use Rattle.bitset.specs.Complements.{kept_below}
use Rattle.bitset.proofs.complement.Goals as goal

pub returns : goal.returns
returns c =
    let a = c.args in
    c.keep_below.ensures ∙ ap (kept_below a.total) c.flip.ensures
    ∙ complement-kept a.total a.set.now
