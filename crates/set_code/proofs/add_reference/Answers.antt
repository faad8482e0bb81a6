-- `set_code::add_reference` meets its contract: one thing is put into the set, or an attribute's set is joined to it. Assumes nothing.
use mathlib.Core.Path.{ap, ◌∙◌}
use Rattle.bitset.specs.Sets.{union_of}
use Rattle.set_code.proofs.Leaves.{gained-thing, gained-attribute}
use Rattle.set_code.proofs.add_reference.Goals as goal

pub returns-then-unit-lt-ATTRIBUTE : goal.returns-then-unit-lt-ATTRIBUTE
returns-then-unit-lt-ATTRIBUTE c =
    let a = c.args in
    c.insert.ensures ∙ gained-thing a.out.now a.sets.now a.unit c.insert-arg-1.given.0.1 c.if-unit-lt-ATTRIBUTE.true

pub returns-else-unit-lt-ATTRIBUTE : goal.returns-else-unit-lt-ATTRIBUTE
returns-else-unit-lt-ATTRIBUTE c =
    let a = c.args in
    c.union.ensures ∙ ap (union_of a.out.now) c.part.ensures
    ∙ gained-attribute a.out.now a.sets.now a.unit c.union-arg-1.given.0.1 c.if-unit-lt-ATTRIBUTE.false
