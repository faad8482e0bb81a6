-- `grammar::statement_form` meets its contract: a row is of the form that its keyword asks for exactly if there is something written. Assumes nothing.
use mathlib.Core.Path.{refl}
use mathlib.Core.Bool.{Bool, false}
use mathlib.Core.List.{[], ◌∷◌}
use Rattle.lexer.specs.Forms.{Forms}
use Rattle.policy.specs.Grammar.{written}
use Rattle.items.specs.Reads.{is_some}
use Rattle.items.proofs.Items.{sees, no_word, alike}
use Rattle.items.proofs.Rows.{refuse, after-word}
use Rattle.grammar.proofs.Statements.{statement-row}
use Rattle.grammar.proofs.statement_form.Goals as goal

abbrev is_written : Forms → Bool
is_written f = is_some (written f)

pub returns-in_default : goal.returns-in_default
returns-in_default c = λ at e. refuse (alike is_written (λ f. false) _ _ _ (1 ∷ 2 ∷ 3 ∷ []) 31 (tt, λ x f g. refl, refl, refl) e (no_word _ c.in_default.not-Word))

pub returns-in_err-keyword : goal.returns-in_err-keyword
returns-in_err-keyword c = λ at e.
    rw c.from_residual.ensures (refuse (statement-row 31 (sees e c.in-Word.is) _ c.in_err-keyword.ensures))

pub returns : goal.returns
returns c = λ at e.
    let l = sees e c.in-Word.is in
    after-word l (statement-row 31 l _ c.in_ok-keyword.ensures) c.keyword_form.ensures
