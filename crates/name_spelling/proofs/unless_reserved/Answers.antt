-- `name_spelling::unless_reserved` meets its contract: what does not end like a reserved word is none. Assumes nothing.
use mathlib.Core.Path.{sym, ◌∙◌}
use native.Mathlib.Omega.{arith}
use borrow.Author.Tests.{not-true}
use Rattle.name_spelling.proofs.SpellingLaws.{not-reserved-here}
use Rattle.name_spelling.proofs.unless_reserved.Goals as goal

pub bounds-table-past : goal.bounds-table-past
bounds-table-past c = omega (arith, c.requires.0, c.requires.1)

pub returns-then-not-may_be_reserved : goal.returns-then-not-may_be_reserved
returns-then-not-may_be_reserved c =
    rw (not-reserved-here c.args.table.now c.args.from c.args.past c.requires.0 c.requires.1 c.requires.2
    (sym c.may_be_reserved.ensures ∙ not-true _ c.if-not-may_be_reserved.true-raw))

pub is_reserved-requires : goal.is_reserved-requires
is_reserved-requires c = omega (arith, c.requires.0)

pub returns-then-is_reserved : goal.returns-then-is_reserved
returns-then-is_reserved c = rw (sym c.is_reserved.ensures ∙ c.if-is_reserved.true)

pub returns : goal.returns
returns c = rw (sym c.is_reserved.ensures ∙ c.if-is_reserved.false)
