-- `name_spelling::read_part` meets its contract: the bytes so far go on the part, and are hashed. Assumes nothing.
use mathlib.Core.Path.{sym, ap, ◌∙◌}
use native.Mathlib.Omega.{arith}
use Rattle.bloom_filter.specs.Filter.{stepped}
use Rattle.name_spelling.proofs.SpellingLaws.{a_byte, read_first, read_next}
use Rattle.name_spelling.proofs.read_part.Goals as goal

pub loop-hash-init : goal.loop-hash-init
loop-hash-init c =
    read_first c.args.table.now c.args.from c.args.past c.args.before _ c.requires.1 c.requires.0
    (c.hash_step-hash.ensures.0 ∙ ap (stepped c.args.before) c.wide.ensures.0) c.hash_step-hash.ensures.1

pub bounds-table-i : goal.bounds-table-i
bounds-table-i c =
    omega (arith, c.requires.1, a_byte c.loop-hash.i c.args.past _ (sym c.goes_on.ensures ∙ c.loop-hash-test.true))

pub hash_step-hash-requires-in-loop-hash : goal.hash_step-hash-requires-in-loop-hash
hash_step-hash-requires-in-loop-hash c = c.loop-hash.invariant.small

pub loop-hash-smaller : goal.loop-hash-smaller
loop-hash-smaller c =
    omega (arith, a_byte c.loop-hash.i c.args.past _ (sym c.goes_on.ensures ∙ c.loop-hash-test.true))

pub loop-hash-preserved : goal.loop-hash-preserved
loop-hash-preserved c =
    read_next c.args.table.now c.args.from c.args.past c.args.before c.loop-hash.hash c.requires.1 c.loop-hash.i c.loop-hash.invariant _
    (sym c.goes_on.ensures ∙ c.loop-hash-test.true)
    (c.hash_step-hash-in-loop-hash.ensures.0 ∙ ap (stepped c.loop-hash.hash) c.wide-in-loop-hash.ensures.0) c.hash_step-hash-in-loop-hash.ensures.1

pub returns : goal.returns
returns c = record { read = c.loop-hash.invariant; stops = sym c.goes_on.ensures ∙ c.loop-hash-test.false }
