-- `set_code::reference` meets its contract: one thing is put into the empty set, or an attribute's set is read. Assumes nothing.
use mathlib.Core.Path.{ap, ◌∙◌}
use mathlib.Core.List.{List}
use Prim.Native.Nat.{ℕ}
use Rattle.bitset.specs.Sets.{inserted}
use Rattle.set_code.proofs.Leaves.{one-thing, one-attribute}
use Rattle.set_code.proofs.reference.Goals as goal

pub returns-then-unit-lt-ATTRIBUTE : goal.returns-then-unit-lt-ATTRIBUTE
returns-then-unit-lt-ATTRIBUTE c =
    let a = c.args in
    c.insert.ensures ∙ ap (λ (s : List ℕ). inserted s a.unit) c.clear.ensures
    ∙ one-thing a.out.now a.sets.now a.unit c.clear-arg-1.given.0.1 c.if-unit-lt-ATTRIBUTE.true

pub returns-else-unit-lt-ATTRIBUTE : goal.returns-else-unit-lt-ATTRIBUTE
returns-else-unit-lt-ATTRIBUTE c =
    let a = c.args in
    c.read_at.ensures ∙ one-attribute a.out.now a.sets.now a.unit c.read_at-arg-1.given.0.1 c.if-unit-lt-ATTRIBUTE.false
