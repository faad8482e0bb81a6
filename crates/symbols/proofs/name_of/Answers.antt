-- `symbols::name_of` meets its contract. The loop's invariant: the question among the entries from `at` on, the first of them at `at`, is
-- answered as among all. The measure is what is left of the section. Assumes nothing.
use Rattle.symbols.proofs.FindLaws.{no-entry, none-numbered, name-begins, other-sort, other-number, this-numbered}
use native.Mathlib.Omega.{arith}
use mathlib.Core.Path.{◌∙◌}
use Rattle.symbols.proofs.name_of.Goals as goal
use Rattle.symbols.proofs.name_of.Goals.{else-s-sort-via-then-s-sort+else-n-number, else-s-sort-via-else-s-sort}

pub loop-s-init : goal.loop-s-init
loop-s-init c = (
  omega (arith, c.min-at.ensures),
  name-begins c.args.sort c.args.number c.args.table.now c.args.end _ c.min-last.ensures c.args.start _ c.min-at.ensures,
)

pub returns-then-n-number : goal.returns-then-n-number
returns-then-n-number c = this-numbered c.in-Named.ensures _ _ c.if-s-sort.true c.if-n-number.true ∙ c.loop-s.invariant.1

pub loop-s-preserved : goal.loop-s-preserved
loop-s-preserved c = (
  c.in-Named.ensures.within.inside,
  (elim c.else-s-sort.branch [
    | else-s-sort-via-then-s-sort+else-n-number w ↦ other-number c.in-Named.ensures _ _ w.if-s-sort.true w.if-n-number.false
    | else-s-sort-via-else-s-sort w ↦ other-sort c.in-Named.ensures _ _ w.if-s-sort.false
  ])
      ∙ c.loop-s.invariant.1,
)

pub returns : goal.returns
returns c = none-numbered _ _ _ _ (no-entry _ c.entry_at.ensures c.in_default.not-Named) ∙ c.loop-s.invariant.1
