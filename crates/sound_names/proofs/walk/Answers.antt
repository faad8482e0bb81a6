-- `sound_names::walk` meets its contract: at each turn the invariant is that of proofs/WalkLaws, and the filter knows the entries passed.
-- Assumes nothing.
use Prim.Native.Nat.{◌+◌, ◌<◌}
use mathlib.Core.Path.{refl, sym, ◌∙◌}
use borrow.Author.Tests.{not-true, not-false}
use Rattle.symbols.specs.Section.{between}
use Rattle.name_spelling.proofs.SpellingLaws.{is_spelled, not-spelled, hashed-by}
use Rattle.sound_names.specs.Tally.{most_parts}
use Rattle.sound_names.proofs.FilterLaws.{not_found}
use Rattle.sound_names.proofs.WalkLaws.{walk-begin, walk-room, walk-next, walk_refused, walk-done, walk-halts, knows-begin, knows-next}
use Rattle.sound_names.proofs.WalkLaws.{not_free, free-by}
use Rattle.table_laws.proofs.ListLaws.{all-places}
use Rattle.sound_names.proofs.walk.Goals as goal

pub loop-sort-init : goal.loop-sort-init
loop-sort-init c = (
  walk-begin c.args.table.now c.args.start c.args.end _ _ c.requires,
  knows-begin c.args.table.now c.args.start c.args.end,
)

pub returns-in_default : goal.returns-in_default
returns-in_default c =
    let a = c.args in
    let sort = c.in-Named.sort in
    let number = c.in-Named.number in
    let past = c.in-Named.past in
    let name = between a.table.now (c.loop-sort.at + 4) past in
    walk_refused a.table.now a.start a.end c.loop-sort.at _ _ c.loop-sort.invariant.0 sort number past (rw c.in-Named.is at c.next_entry-k.ensures)
    (all-places (λ k. k < 256) a.table.now 0 (λ i h. (c.shared_slice_known-1.given i).fits))
    (not_free _ _ sort number _ (not-spelled (most_parts sort) name (rw c.most_parts.ensures at c.in_default.ensures)))

pub returns-then-not-is_allowed : goal.returns-then-not-is_allowed
returns-then-not-is_allowed c =
    let a = c.args in
    let sort = c.in-Named.sort in
    let number = c.in-Named.number in
    let past = c.in-Named.past in
    walk_refused a.table.now a.start a.end c.loop-sort.at _ _ c.loop-sort.invariant.0 sort number past (rw c.in-Named.is at c.next_entry-k.ensures)
    (all-places (λ k. k < 256) a.table.now 0 (λ i h. (c.shared_slice_known-1.given i).fits))
    (free-by _ _ sort number _ (sym c.is_allowed.ensures ∙ not-true _ c.if-not-is_allowed.true-raw) refl refl)

pub advance-requires : goal.advance-requires
advance-requires c =
    let a = c.args in
    walk-room a.table.now a.start a.end c.loop-sort.at _ _ c.loop-sort.invariant.0 c.in-Named.sort c.in-Named.number c.in-Named.past
    (rw c.in-Named.is at c.next_entry-k.ensures)
    (sym c.is_allowed.ensures ∙ not-false _ c.if-not-is_allowed.false-raw)

pub hash_step-requires : goal.hash_step-requires
hash_step-requires c =
    let a = c.args in
    (is_spelled (most_parts c.in-Named.sort) (between a.table.now (c.loop-sort.at + 4) c.in-Named.past) _
    (rw c.most_parts.ensures at c.in-Some.ensures)).2

pub is_new-requires : goal.is_new-requires
is_new-requires c =
    let a = c.args in
    let here = rw c.in-Named.is at c.next_entry-k.ensures in
    let name = between a.table.now (c.loop-sort.at + 4) c.in-Named.past in
    let is = is_spelled (most_parts c.in-Named.sort) name _ (rw c.most_parts.ensures at c.in-Some.ensures) in
    (here.within.ahead, not_found _ _ _ name _ _ c.loop-sort.invariant.1 (hashed-by name _ _ _ is.1 c.hash_step.ensures.0) c.insert-shares.ensures.0)

pub returns-then-not-is_new : goal.returns-then-not-is_new
returns-then-not-is_new c =
    let a = c.args in
    let sort = c.in-Named.sort in
    let number = c.in-Named.number in
    let past = c.in-Named.past in
    let name = between a.table.now (c.loop-sort.at + 4) past in
    let is = is_spelled (most_parts sort) name _ (rw c.most_parts.ensures at c.in-Some.ensures) in
    walk_refused a.table.now a.start a.end c.loop-sort.at _ _ c.loop-sort.invariant.0 sort number past (rw c.in-Named.is at c.next_entry-k.ensures)
    (all-places (λ k. k < 256) a.table.now 0 (λ i h. (c.shared_slice_known-1.given i).fits))
    (free-by _ _ sort number name (sym c.is_allowed.ensures ∙ not-false _ c.if-not-is_allowed.false-raw) is.0
    (sym (rw c.family_of-family.ensures at c.is_new.ensures) ∙ not-true _ c.if-not-is_new.true-raw))

pub loop-sort-preserved : goal.loop-sort-preserved
loop-sort-preserved c =
    let a = c.args in
    let sort = c.in-Named.sort in
    let number = c.in-Named.number in
    let past = c.in-Named.past in
    let here = rw c.in-Named.is at c.next_entry-k.ensures in
    let name = between a.table.now (c.loop-sort.at + 4) past in
    let is = is_spelled (most_parts sort) name _ (rw c.most_parts.ensures at c.in-Some.ensures) in (
      rw (c.advance.ensures.0, c.advance.ensures.1)
          (walk-next a.table.now a.start a.end c.loop-sort.at _ _ c.loop-sort.invariant.0 sort number past here
          (free-by _ _ sort number name (sym c.is_allowed.ensures ∙ not-false _ c.if-not-is_allowed.false-raw) is.0
          (sym (rw c.family_of-family.ensures at c.is_new.ensures) ∙ not-false _ c.if-not-is_new.false-raw))),
      rw (c.insert-shares.ensures.1, hashed-by name _ _ _ is.1 c.hash_step.ensures.0, c.family_of-family.ensures)
          (knows-next a.table.now a.start a.end c.loop-sort.at _ _ c.loop-sort.invariant.0 sort number past here _ c.loop-sort.invariant.1),
    )

pub returns-in-Done : goal.returns-in-Done
returns-in-Done c =
    let a = c.args in
    walk-done a.table.now a.start a.end c.loop-sort.at _ _ c.loop-sort.invariant.0
    (all-places (λ k. k < 256) a.table.now 0 (λ i h. (c.shared_slice_known-1.given i).fits))
    (rw c.in-Done.is at c.next_entry-k.ensures)

pub returns-in-Broken : goal.returns-in-Broken
returns-in-Broken c =
    let a = c.args in
    walk-halts a.table.now a.start a.end c.loop-sort.at _ _ c.loop-sort.invariant.0
    (all-places (λ k. k < 256) a.table.now 0 (λ i h. (c.shared_slice_known-1.given i).fits))
    (rw c.in-Broken.is at c.next_entry-k.ensures)
