-- `table_names::is_word` meets its contract: a part that is no shorter than the word is compared byte by byte. Assumes nothing.
use mathlib.Core.Path.{sym, ◌∙◌}
use Rattle.table_names.proofs.WordLaws.{shorter, whole_word}
use Rattle.table_names.proofs.is_word.Goals as goal

pub returns-then-length-word : goal.returns-then-length-word
returns-then-length-word c = rw c.in-Some.is (sym (shorter _ _ _ _ c.if-length-word.true))

pub returns-else-length-word : goal.returns-else-length-word
returns-else-length-word c = rw c.in-Some.is (c.same.ensures ∙ rw (whole_word _ _ c.if-length-word.false))

pub returns-in-None : goal.returns-in-None
returns-in-None c = rw c.in-None.is
