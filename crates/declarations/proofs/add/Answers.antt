-- `declarations::add` meets its contract: an entry that fits is entered. Assumes nothing.
use native.Mathlib.Omega.{arith}
use Rattle.declarations.proofs.NewEntryLaws.{too_long, past_end, no_room, appended}
use Rattle.declarations.proofs.add.Goals as goal

pub returns-then-len-gt-MAX : goal.returns-then-len-gt-MAX
returns-then-len-gt-MAX c = too_long _ _ _ _ _ c.if-len-gt-MAX.true

pub returns-then-end-gt-NAME_BYTES : goal.returns-then-end-gt-NAME_BYTES
returns-then-end-gt-NAME_BYTES c = past_end _ _ _ _ _ c.if-end-gt-NAME_BYTES.true

pub returns-then-end-len : goal.returns-then-end-len
returns-then-end-len c = no_room _ _ _ _ _ c.if-end-gt-NAME_BYTES.false c.if-end-len.true

pub returns : goal.returns
returns c =
    appended _ _ _ _ _ _ _ c.requires.1 c.requires.0 (omega (arith, c.if-len-gt-MAX.false)) c.enter.ensures
