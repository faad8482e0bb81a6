-- `name_chains::find_in_section` meets its contract. The loop's invariant: the try among the entries from `at` on, after those that were compared, answers
-- as the try among all. The measure is what is left of the section. Assumes nothing.
use mathlib.Core.Path.{◌∙◌}
use native.Mathlib.Omega.{arith}
use Rattle.symbols.proofs.FindLaws.{no-entry}
use Rattle.name_chains.proofs.FindLaws.{passed-over, is-this, not-this, section-ends}
use Rattle.name_chains.proofs.find_in_section.Goals as goal
use Rattle.name_chains.proofs.find_in_section.Goals.{else-past-first-via-then-past-first+else-family_of-family, else-past-first-via-else-past-first}

pub returns-then-same : goal.returns-then-same
returns-then-same c =
    let l = c.loop-sort in
    is-this c.in-Named.ensures _ _ c.family_of.ensures c.if-family_of-family.true c.if-past-first.true c.same.ensures _
    l.compared c.if-same.true l.invariant.1 l.invariant.2

pub loop-sort-preserved-else-same : goal.loop-sort-preserved-else-same
loop-sort-preserved-else-same c =
    let l = c.loop-sort in
    let n =
    not-this c.in-Named.ensures _ _ c.family_of.ensures c.if-family_of-family.true c.if-past-first.true c.same.ensures c.if-same.false in
    (omega (arith, c.in-Named.ensures.within), n.0 ∙ l.invariant.1, omega (arith, n.1, l.invariant.2))

pub loop-sort-preserved : goal.loop-sort-preserved
loop-sort-preserved c =
    let l = c.loop-sort in
    let n =
    passed-over c.in-Named.ensures c.args.family c.args.name.now
    (λ long family. elim c.else-past-first.branch [
      | else-past-first-via-then-past-first+else-family_of-family w ↦ w.if-family_of-family.false (w.family_of.ensures ∙ family)
      | else-past-first-via-else-past-first w ↦ w.if-past-first.false long
    ]) in
    (omega (arith, c.in-Named.ensures.within), n.0 ∙ l.invariant.1, omega (arith, n.1, l.invariant.2))

pub returns : goal.returns
returns c =
    let l = c.loop-sort in
    section-ends _ _ _ _ _ (no-entry _ c.next_entry.ensures c.in_default.not-Named) l.invariant.1 l.invariant.2
