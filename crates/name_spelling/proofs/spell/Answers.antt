-- `name_spelling::spell` meets its contract: a name is its first part, and what is after it. Assumes nothing.
use mathlib.Core.Path.{◌≡◌, sym, ◌∙◌}
use native.Mathlib.Omega.{arith}
use borrow.Author.Tests.{not-true, not-false}
use Rattle.name_spelling.proofs.SpellingLaws.{a_byte, no_start, is-part, ends, goes-behind, too_long, by_parts}
use Rattle.name_spelling.proofs.spell.Goals as goal

pub returns-then-past-from-gt-MAX : goal.returns-then-past-from-gt-MAX
returns-then-past-from-gt-MAX c =
    too_long c.args.table.now c.args.from c.args.past c.args.most_parts c.requires.0 c.requires.1 c.if-past-from-gt-MAX.true

pub returns-then-not-starts_part : goal.returns-then-not-starts_part
returns-then-not-starts_part c =
    let a = c.args in
    sym (no_start a.table.now a.most_parts a.from a.past 0 c.requires.1 (sym c.starts_part.ensures ∙ not-true _ c.if-not-starts_part.true-raw))
    ∙ by_parts a.table.now a.from a.past a.most_parts c.requires.0 c.requires.1 c.if-past-from-gt-MAX.false

pub read_part-part-requires : goal.read_part-part-requires
read_part-part-requires c =
    (a_byte c.args.from c.args.past _ (sym c.starts_part.ensures ∙ not-false _ c.if-not-starts_part.false-raw), c.requires.1, omega arith)

-- below, `x` says what was read of the part
pub spell_more-requires : goal.spell_more-requires
spell_more-requires c =
    let x = c.read_part-part.ensures in
    let a = c.args in
    let starts = sym c.starts_part.ensures ∙ not-false _ c.if-not-starts_part.false-raw in
    (x.read.ahead, c.if-end-past.true, c.requires.1, x.read.small, is-part a.table.now a.from a.past 0 _ c.requires.1 starts x)

pub returns-then-end-past : goal.returns-then-end-past
returns-then-end-past c =
    let x = c.read_part-part.ensures in
    let a = c.args in
    let starts = sym c.starts_part.ensures ∙ not-false _ c.if-not-starts_part.false-raw in
    c.spell_more.ensures
    ∙ sym (goes-behind a.table.now a.from a.past 0 _ c.requires.1 starts x a.most_parts c.requires.2 c.if-end-past.true)
    ∙ by_parts a.table.now a.from a.past a.most_parts c.requires.0 c.requires.1 c.if-past-from-gt-MAX.false

pub unless_reserved-requires : goal.unless_reserved-requires
unless_reserved-requires c =
    let x = c.read_part-part.ensures in
    let a = c.args in
    let starts = sym c.starts_part.ensures ∙ not-false _ c.if-not-starts_part.false-raw in
    let e : c.read_part-part.result.end ≡ a.past = omega (arith, x.read.within, c.if-end-past.false) in
    (omega (arith, x.read.ahead, x.read.within), c.requires.1, rw e at (is-part a.table.now a.from a.past 0 _ c.requires.1 starts x))

pub returns : goal.returns
returns c =
    let x = c.read_part-part.ensures in
    let a = c.args in
    let starts = sym c.starts_part.ensures ∙ not-false _ c.if-not-starts_part.false-raw in
    c.unless_reserved.ensures
    ∙ sym (ends a.table.now a.from a.past 0 _ c.requires.1 starts x a.most_parts c.requires.2 c.if-end-past.false)
    ∙ by_parts a.table.now a.from a.past a.most_parts c.requires.0 c.requires.1 c.if-past-from-gt-MAX.false
