-- `constrain_statement::class_at` meets its contract: a word, and the class that it names. Assumes nothing.
use Rattle.items.proofs.Items.{sees}
use Rattle.constrain_statement.proofs.ClassLaws.{word-missing, class-undeclared, class-too-far, class-found}
use native.Mathlib.Omega.{arith}
use borrow.Enum.Refused.{opened}
use Rattle.constrain_statement.proofs.class_at.Goals as goal

pub returns-in_default : goal.returns-in_default
returns-in_default c = word-missing c.next_item-first.ensures (opened c.in_default.in_default-own.keys2)

pub overflow_add-end : goal.overflow_add-end
overflow_add-end c = omega (arith, (sees c.next_item-first.ensures c.in-Word.is).ahead.3)

pub slice_bounds-name-end : goal.slice_bounds-name-end
slice_bounds-name-end c = omega (arith, (sees c.next_item-first.ensures c.in-Word.is).ahead.3)

pub returns-in_default-found : goal.returns-in_default-found
returns-in_default-found c =
    class-undeclared (sees c.next_item-first.ensures c.in-Word.is) c.lookup_class-found.ensures c.in_default-found.is

pub returns-then-number-ge-MAX : goal.returns-then-number-ge-MAX
returns-then-number-ge-MAX c =
    class-too-far (sees c.next_item-first.ensures c.in-Word.is) c.lookup_class-found.ensures c.in-Some.is
    c.if-number-ge-MAX.true

pub returns : goal.returns
returns c =
    class-found (sees c.next_item-first.ensures c.in-Word.is) c.lookup_class-found.ensures c.in-Some.is
    c.if-number-ge-MAX.false
