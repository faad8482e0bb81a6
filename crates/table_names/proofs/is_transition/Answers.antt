-- `table_names::is_transition` meets its contract: the constants are the words, by computing. Assumes nothing.
use mathlib.Core.Path.{sym, ap, ◌∙◌}
use Rattle.policy.specs.Basics.{any}
use Rattle.policy.specs.Words.{transition_words}
use Rattle.policy.specs.Deciding.{Reply}
use Rattle.policy.specs.Questions.{Part}
use Rattle.table_names.specs.TableNames.{has_one_name}
use Rattle.table_names.proofs.WordLaws.{or-second}
use Rattle.table_names.proofs.is_transition.Goals as goal

pub returns-then-is_word : goal.returns-then-is_word
unfolding any
returns-then-is_word c =
    let t = c.args.table.now in
    c.if-is_word.true
    ∙ sym (ap (λ (p : Reply Part). has_one_name t p transition_words) (sym c.permission_name-place.ensures)
    ∙ rw (sym c.is_word.ensures ∙ c.if-is_word.true))

pub returns-else-is_word : goal.returns-else-is_word
unfolding any
returns-else-is_word c =
    let t = c.args.table.now in
    sym (ap (λ (p : Reply Part). has_one_name t p transition_words) (sym c.permission_name-place.ensures)
    ∙ or-second _ _ (sym c.is_word.ensures ∙ c.if-is_word.false)
    ∙ sym c.is_word-else-is_word.ensures)
