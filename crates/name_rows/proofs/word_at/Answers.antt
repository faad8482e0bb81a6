-- `name_rows::word_at` meets its contract: a token by its kind. Assumes nothing.
use Rattle.name_rows.proofs.Rows.{a_word, no-word}
use Rattle.name_rows.proofs.word_at.Goals as goal

pub returns-in_default : goal.returns-in_default
returns-in_default c = no-word _ _ _ c.next.ensures c.in_default.not-Word

pub returns : goal.returns
returns c = a_word _ _ _ c.next.ensures _ _ c.in-Word.is
