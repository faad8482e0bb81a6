-- `blocks::insert_in_filter` meets its contract. Assumes nothing.
use native.Mathlib.Omega.{arith}
use mathlib.Core.Path.{sym}
use borrow.Author.Tests.{eqb-true, eqb-false}
use Rattle.blocks.proofs.BlockFilter.{no_words, some_words}
use Rattle.blocks.proofs.insert_in_filter.Goals as goal

pub returns-then-is_empty : goal.returns-then-is_empty
returns-then-is_empty c = no_words (eqb-true _ _ (sym c.if-is_empty.ensures))

pub returns : goal.returns
returns c =
    let some = eqb-false _ _ (sym c.if-is_empty.ensures) in
    some_words (omega (arith, some)) c.hash_of.ensures.0 c.insert.ensures.0 c.insert.ensures.1
