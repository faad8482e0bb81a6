-- `clashes::share` meets its contract: a thing is looked for in the other reference, and two attributes share what their sets share.
-- Assumes nothing.
use mathlib.Core.Path.{sym, ◌∙◌}
use Rattle.clashes.proofs.SharingLaws.{shares-first, shares-second, shares-sets}
use Rattle.clashes.proofs.share.Goals as goal

pub returns-then-x-lt-ATTRIBUTE : goal.returns-then-x-lt-ATTRIBUTE
returns-then-x-lt-ATTRIBUTE c = c.stands_for.ensures ∙ sym (shares-first _ _ _ c.if-x-lt-ATTRIBUTE.true)

pub returns-then-y-lt-ATTRIBUTE : goal.returns-then-y-lt-ATTRIBUTE
returns-then-y-lt-ATTRIBUTE c = c.stands_for-then-y-lt-ATTRIBUTE.ensures ∙ sym (shares-second _ _ _ c.if-y-lt-ATTRIBUTE.true)

pub returns : goal.returns
returns c =
    rw (shares-sets _ _ _ c.if-x-lt-ATTRIBUTE.false c.if-y-lt-ATTRIBUTE.false, ← c.row_of-2.ensures, ← c.row_of.ensures, ← c.part-second.ensures)
    c.meets_at.ensures
