-- `parser::read_statements` meets its contract: whatever blocks are open, each statement leaves the reading where the next item begins. The measure is what is
-- left of the text. Assumes nothing.
use mathlib.Core.Path.{sym, ◌∙◌}
use native.Mathlib.Omega.{arith}
use Rattle.items.proofs.Frames.{sees}
use Rattle.parser.proofs.LoopInvariant.{finishes, opens_at, no-block-word, statement-on, statement-stops, past-statement}
use Rattle.parser.proofs.StatementRuns.{block-ahead}
use Rattle.parser.proofs.read_statements.Goals as goal

pub returns-then-starts_block : goal.returns-then-starts_block
returns-then-starts_block c =
    let starts = sym c.starts_block.ensures ∙ c.if-starts_block.true in
    let opens = c.in-Open.is in
    let looked = c.next_item-item.ensures in
    let far = block-ahead _ c.loop-place.at _ looked opens c.next_item-first.ensures starts in
    record {
      says = λ lent keys filter o clean rest. record {
        here = c.loop-place.at;
        next = _;
        first = _;
        rest = c.loop-place.invariant.1 lent keys filter o clean rest;
        opens = sym opens ∙ looked;
        first-is = c.next_item-first.ensures;
        starts = starts;
        after_first = c.place_after.ensures;
      };
      ahead = (omega (arith, c.loop-place.invariant.0, far.0, c.place_after.ensures), omega (arith, far.1, c.place_after.ensures));
    }

pub loop-place-smaller : goal.loop-place-smaller
loop-place-smaller c =
    past-statement c.loop-place.at c.next_item-item.ensures c.in-Open.is
    (c.read-read_here.ensures _ c.next_item-first.ensures) c.in-Ok.is

pub loop-place-preserved : goal.loop-place-preserved
loop-place-preserved c =
    let looked = c.next_item-item.ensures in
    let plain = no-block-word _ _ c.next_item-first.ensures
    (sym c.starts_block.ensures ∙ c.if-starts_block.false) in
    let stated = c.read-read_here.ensures _ c.next_item-first.ensures in (
      omega (arith, c.loop-place.invariant.0, past-statement c.loop-place.at looked c.in-Open.is stated c.in-Ok.is),
      λ lent keys filter o clean rest.
          statement-on (c.loop-place.invariant.1 lent keys filter o clean rest) (opens_at clean looked c.in-Open.is) plain stated c.in-Ok.is,
    )

pub returns-in-Err : goal.returns-in-Err
returns-in-Err c =
    let looked = c.next_item-item.ensures in
    let plain = no-block-word _ _ c.next_item-first.ensures
    (sym c.starts_block.ensures ∙ c.if-starts_block.false) in
    record {
      says = λ lent keys filter o clean rest.
          statement-stops (c.loop-place.invariant.1 lent keys filter o clean rest) (opens_at clean looked c.in-Open.is) plain
          (c.read-read_here.ensures _ c.next_item-first.ensures) c.in-Err.is;
      ahead = tt;
    }

pub returns-in-Close : goal.returns-in-Close
returns-in-Close c =
    let looked = c.next_item-item.ensures in
    let far = (sees looked c.in-Close.is).ahead in
    record {
      says = λ lent keys filter o clean rest. record {
        here = c.loop-place.at;
        rest = c.loop-place.invariant.1 lent keys filter o clean rest;
        closes = sym c.in-Close.is ∙ looked;
      };
      ahead = (omega (arith, c.loop-place.invariant.0, far.0), far.1);
    }

pub returns-in-Word : goal.returns-in-Word
returns-in-Word c = record {
  says = λ lent keys filter o clean rest. finishes _ c.next_item-item.ensures c.in-Word.in-Word-own.keys3 (c.loop-place.invariant.1 lent keys filter o clean rest);
  ahead = tt;
}
