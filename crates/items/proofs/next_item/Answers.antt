-- `items::next_item` meets its contract: the item is the lexer's token, with the number of a word. Assumes nothing.
use Rattle.lexer.specs.declared.Token.{Token}
use Rattle.lexer.proofs.Seen.{seen}
use native.Mathlib.Omega.{arith}
use Rattle.items.proofs.next_item.Goals as goal

pub overflow_add-result : goal.overflow_add-result
overflow_add-result c = omega (arith, (seen _ _ _ (Token.Open c.in-Open.place) c.next.ensures c.in-Open.is).ahead)

pub overflow_add-result-in-Close : goal.overflow_add-result-in-Close
overflow_add-result-in-Close c = omega (arith, (seen _ _ _ (Token.Close c.in-Close.place) c.next.ensures c.in-Close.is).ahead)

pub number_at-requires : goal.number_at-requires
number_at-requires c =
    omega (
      arith,
      (seen _ _ _ (Token.Word c.in-Word.start c.in-Word.len) c.next.ensures
          c.in-Word.is).ahead,
    )

pub overflow_add-result-in-Word : goal.overflow_add-result-in-Word
overflow_add-result-in-Word c =
    omega (
      arith,
      (seen _ _ _ (Token.Word c.in-Word.start c.in-Word.len) c.next.ensures
          c.in-Word.is).ahead,
    )
