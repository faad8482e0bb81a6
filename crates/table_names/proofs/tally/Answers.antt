-- `table_names::tally` meets its contract: at each turn the invariant is that of proofs/TallyLaws. The measure is what is left of the section. Assumes nothing.
use native.Mathlib.Omega.{arith}
use mathlib.Core.Path.{sym, ap, ◌∙◌}
use lib.ListN.{length}
use Rattle.symbols.proofs.EntryLaws.{met, less-left}
use Rattle.symbols.proofs.FindLaws.{none_done, none-broken}
use Rattle.table_names.proofs.TallyLaws.{tally-begins, tally-passes, tally-counts, tally-ends}
use Rattle.table_names.proofs.tally.Goals as goal

pub loop-sort-init : goal.loop-sort-init
loop-sort-init c =
    tally-begins c.args.table.now c.names_end-end.result c.names_start-at.result _ c.requires c.names_start-at.ensures c.names_end-end.ensures

pub loop-sort-smaller-then-sort-ge-COUNT : goal.loop-sort-smaller-then-sort-ge-COUNT
loop-sort-smaller-then-sort-ge-COUNT c =
    let m = met c.next_entry-k.ensures c.in-Named.is in
    less-left m

pub loop-sort-preserved-then-sort-ge-COUNT : goal.loop-sort-preserved-then-sort-ge-COUNT
loop-sort-preserved-then-sort-ge-COUNT c =
    let m = met c.next_entry-k.ensures c.in-Named.is in
    let l = c.loop-sort in
    let t = c.args.table.now in
    let end = c.names_end-end.result in
    tally-passes t end l.at _ l.invariant c.in-Named.sort c.in-Named._n c.in-Named.past m c.if-sort-ge-COUNT.true

pub bounds-counts-sort : goal.bounds-counts-sort
bounds-counts-sort c =
    omega (arith, c.loop-sort.invariant.eight, c.if-sort-ge-COUNT.false)

pub overflow_add-counts : goal.overflow_add-counts
overflow_add-counts c =
    let m = met c.next_entry-k.ensures c.in-Named.is in
    let l = c.loop-sort in
    omega (arith, m.within, l.invariant.low c.in-Named.sort)

pub bounds-counts-sort-in-Named : goal.bounds-counts-sort-in-Named
bounds-counts-sort-in-Named c =
    omega (arith, c.loop-sort.invariant.eight, c.if-sort-ge-COUNT.false)

pub loop-sort-smaller : goal.loop-sort-smaller
loop-sort-smaller c =
    let m = met c.next_entry-k.ensures c.in-Named.is in
    less-left m

pub loop-sort-preserved : goal.loop-sort-preserved
loop-sort-preserved c =
    let m = met c.next_entry-k.ensures c.in-Named.is in
    let l = c.loop-sort in
    let t = c.args.table.now in
    let end = c.names_end-end.result in
    tally-counts t end l.at _ l.invariant c.in-Named.sort c.in-Named._n
    c.in-Named.past m c.if-sort-ge-COUNT.false

pub shape_of-counts-in-Done : goal.shape_of-counts-in-Done
shape_of-counts-in-Done c = c.loop-sort.invariant.eight ∙ sym (ap length c.requires)

pub returns-in-Done : goal.returns-in-Done
returns-in-Done c =
    let l = c.loop-sort in
    tally-ends c.args.table.now c.names_end-end.result l.at _ l.invariant (none_done (met c.next_entry-k.ensures c.in-Done.is))

pub shape_of-counts-in-Broken : goal.shape_of-counts-in-Broken
shape_of-counts-in-Broken c = c.loop-sort.invariant.eight ∙ sym (ap length c.requires)

pub returns-in-Broken : goal.returns-in-Broken
returns-in-Broken c =
    let l = c.loop-sort in
    tally-ends c.args.table.now c.names_end-end.result l.at _ l.invariant
    (none-broken (met c.next_entry-k.ensures c.in-Broken.is))
