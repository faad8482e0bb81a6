-- `set_code::fill` meets its contract: the empty set, or its complement within the bound. Assumes nothing.
use mathlib.Core.Path.{ap, ◌∙◌}
use Rattle.bitset.specs.Sets.{complement_of}
use Rattle.set_code.proofs.Leaves.{filled, filled_none}
use Rattle.set_code.proofs.fill.Goals as goal

pub returns-then-bound-eq0 : goal.returns-then-bound-eq0
returns-then-bound-eq0 c =
    rw c.if-bound-eq0.true (c.clear.ensures ∙ filled_none c.args.out.now c.clear-arg-1.given.0.1)

pub returns : goal.returns
returns c =
    let a = c.args in
    c.complement.ensures ∙ ap (complement_of a.bound) c.clear.ensures
    ∙ filled a.out.now a.bound c.clear-arg-1.given.0.1
