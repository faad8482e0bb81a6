-- `name_spelling::spell_more` meets its contract. It calls itself with one part less. Assumes nothing.
use mathlib.Core.Path.{◌≡◌, sym, ap, ◌∙◌}
use Prim.Native.Nat.{◌+◌, ◌<◌}
use native.Mathlib.Omega.{arith}
use borrow.Author.Tests.{not-true, not-false}
use Rattle.std.specs.Prelude.{Some}
use Rattle.bloom_filter.specs.Filter.{stepped}
use Rattle.name_spelling.proofs.SpellingLaws.{a_byte, more-none, more-no-dot, more-no-start, more-no-parts, more_parts, is-part, ends, goes-behind}
use Rattle.name_spelling.proofs.+spell_more.Goals as goal
use Rattle.name_spelling.proofs.+spell_more.Goals.{then-end-past+in_ok-hash, else-end-past+in_ok-hash-2}

pub returns-then-left-eq0 : goal.returns-then-left-eq0
returns-then-left-eq0 t c =
    let a = c.args in
    more-none a.table.now a.from a.dot a.past a.before a.left c.if-left-eq0.true

pub returns-then-not-is_dot : goal.returns-then-not-is_dot
returns-then-not-is_dot t c =
    let a = c.args in
    more-no-dot a.table.now a.from a.dot a.past a.before a.left (sym c.is_dot.ensures ∙ not-true _ c.if-not-is_dot.true-raw)

pub returns-then-not-starts_part : goal.returns-then-not-starts_part
returns-then-not-starts_part t c =
    let a = c.args in
    more-no-start a.table.now a.from a.dot a.past a.before a.left c.requires.2
    (sym c.starts_part.ensures ∙ not-true _ c.if-not-starts_part.true-raw)

-- below, `x` says what was read of the part
pub read_part-part-requires : goal.read_part-part-requires
read_part-part-requires t c =
    let starts = sym c.starts_part.ensures ∙ not-false _ c.if-not-starts_part.false-raw in
    (a_byte (c.args.dot + 1) c.args.past _ starts, c.requires.2, c.hash_step.ensures.1)

pub spell_more-requires : goal.spell_more-requires
spell_more-requires t c =
    let x = c.read_part-part.ensures in
    let a = c.args in
    let starts = sym c.starts_part.ensures ∙ not-false _ c.if-not-starts_part.false-raw in
    let part = is-part a.table.now (a.dot + 1) a.past _ _ c.requires.2 starts x in
    (omega (arith, c.if-left-eq0.false), (x.read.ahead, c.if-end-past.true, c.requires.2, x.read.small, part))

pub unless_reserved-requires : goal.unless_reserved-requires
unless_reserved-requires t c =
    let x = c.read_part-part.ensures in
    let a = c.args in
    let starts = sym c.starts_part.ensures ∙ not-false _ c.if-not-starts_part.false-raw in
    let e : c.read_part-part.result.end ≡ a.past = omega (arith, x.read.within, c.if-end-past.false) in
    (omega (arith, x.read.ahead, x.read.within), c.requires.2, rw e at (is-part a.table.now (a.dot + 1) a.past _ _ c.requires.2 starts x))

pub unless_reserved-requires-2 : goal.unless_reserved-requires-2
unless_reserved-requires-2 t c =
    (c.requires.0, omega (arith, c.requires.1, c.requires.2), c.requires.4)

pub returns-in_err-hash : goal.returns-in_err-hash
returns-in_err-hash t c =
    let a = c.args in
    let x = c.read_part-part.ensures in
    let starts = sym c.starts_part.ensures ∙ not-false _ c.if-not-starts_part.false-raw in
    let some_left : 0 < a.left = omega (arith, c.if-left-eq0.false) in
    c.from_residual.ensures
    ∙ more-no-parts a.table.now a.from a.dot a.past a.before a.left c.hash_step.result
    (sym c.is_dot.ensures ∙ not-false _ c.if-not-is_dot.false-raw)
    (c.hash_step.ensures.0 ∙ ap (stepped a.before) c.wide.ensures.0)
    (c.in_err-hash.ensures ∙ sym (goes-behind a.table.now (a.dot + 1) a.past _ _ c.requires.2 starts x a.left some_left c.if-end-past.true))

pub returns-in_err-hash-2 : goal.returns-in_err-hash-2
returns-in_err-hash-2 t c =
    let a = c.args in
    let x = c.read_part-part.ensures in
    let starts = sym c.starts_part.ensures ∙ not-false _ c.if-not-starts_part.false-raw in
    let some_left : 0 < a.left = omega (arith, c.if-left-eq0.false) in
    c.from_residual-in_err-hash-2.ensures
    ∙ more-no-parts a.table.now a.from a.dot a.past a.before a.left c.hash_step.result
    (sym c.is_dot.ensures ∙ not-false _ c.if-not-is_dot.false-raw)
    (c.hash_step.ensures.0 ∙ ap (stepped a.before) c.wide.ensures.0)
    (c.in_err-hash-2.ensures ∙ sym (ends a.table.now (a.dot + 1) a.past _ _ c.requires.2 starts x a.left some_left c.if-end-past.false))

pub returns : goal.returns
returns t c =
    let a = c.args in
    let x = c.read_part-part.ensures in
    let starts = sym c.starts_part.ensures ∙ not-false _ c.if-not-starts_part.false-raw in
    let some_left : 0 < a.left = omega (arith, c.if-left-eq0.false) in
    more_parts a.table.now a.from a.dot a.past a.before a.left c.hash_step.result
    (sym c.is_dot.ensures ∙ not-false _ c.if-not-is_dot.false-raw)
    (c.hash_step.ensures.0 ∙ ap (stepped a.before) c.wide.ensures.0)
    c.if-end-past.hash _
    (elim c.if-end-past.branch [
      | then-end-past+in_ok-hash w ↦
          ap Some w.hash-is ∙ w.in_ok-hash.ensures
          ∙ sym (goes-behind a.table.now (a.dot + 1) a.past _ _ c.requires.2 starts x a.left some_left w.if-end-past.true)
      | else-end-past+in_ok-hash-2 w ↦
          ap Some w.hash-is ∙ w.in_ok-hash-2.ensures
          ∙ sym (ends a.table.now (a.dot + 1) a.past _ _ c.requires.2 starts x a.left some_left w.if-end-past.false)
    ])
    c.unless_reserved-2.ensures
