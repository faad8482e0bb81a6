-- A statement is what its keyword says: the step after the keyword is the step of the statement. A row that starts with no keyword is of no form.
-- Assumes nothing.
use Rattle.std.specs.Prelude.{Result}
use Rattle.policy.specs.declared.Fault.{Fault}
use Prim.Native.Nat.{ℕ, ◌-◌}
use mathlib.Core.Path.{◌≡◌, refl, sym, ap, subst, ◌∙◌}
use mathlib.Core.Bool.{true}
use mathlib.Core.List.{List, [], ◌∷◌}
use mathlib.Core.Option.{Option, none, some, none-ne-some}
use types.Run.{OneOf}
use denote.Enum.Declared.{tag_of}
use lib.ListN.{take, drop}
use Rattle.lexer.specs.Class.{is_name}
use Rattle.lexer.specs.Scan.{max_level}
use Rattle.lexer.specs.Forms.{Forms, word, frames_at, trim, names_good}
use Rattle.policy.specs.Basics.{◌>>=◌}
use Rattle.policy.specs.Words.{Keyword, keyword_of}
use Rattle.policy.specs.Statements.{Written}
use Rattle.policy.specs.Grammar.{formed, written}
use Rattle.policy.proofs.Lists.{both_true}
use Rattle.words.specs.Numbers.{word_of}
use Rattle.words.proofs.Meaning.{keyword-number}
use Rattle.items.specs.Looks.{item_at}
use Rattle.items.specs.declared.Item.{Item}
use Rattle.items.specs.contracts.Item.{the_type}
use Rattle.items.proofs.Items.{Looked, alike-here}
use Rattle.statement_reader.specs.Memory.{Memory}
use Rattle.statement_reader.specs.Steps.{RowIs, Steps, StepsAt}
use Rattle.statement_reader.specs.declared.Progress.{Progress}

-- what holds of a row that starts with a word holds of the rest
rest-good : (p : ℕ) (w : List ℕ) (f : Forms) → names_good (word p w f) ≡ true → names_good f ≡ true
unfolding names_good
rest-good p w f h = (both_true (is_name w) (names_good f) h).1

rest-whole : (p : ℕ) (w : List ℕ) (f : Forms) → trim (word p w f) (max_level - 1) ≡ word p w f → trim f (max_level - 1) ≡ f
unfolding trim
rest-whole p w f h = cc

-- what is written in a row that starts with a word
module _ {t : List ℕ} {at start len number next : ℕ} (l : Looked t at (Item.Word start len number next)) where
  said : (o : Option Keyword) → keyword_of (word_of number) ≡ o → written (frames_at t at).here ≡ (o >>= λ k. formed k (frames_at t next).here)
  said o e =
      ap written l.here
      ∙ ap (λ (x : Option Keyword). x >>= λ k. formed k (frames_at t next).here)
      (keyword-number (take len (drop start t)) ∙ ap (λ (n : ℕ). keyword_of (word_of n)) l.ahead.2 ∙ e)

module _ {t : List ℕ} {at place : ℕ} {before after : Memory} {s : Progress} {r : Result Progress Fault} where
  -- nothing is said of a row of no form
  formless : written (frames_at t at).here ≡ none → StepsAt t at place before after s r
  formless e = record { says = λ lent p path w h row room. absurd (none-ne-some w (sym e ∙ row.form)) }

  pub no_word : (i : Item) → i ≡ item_at t at → OneOf (1 ∷ 2 ∷ 3 ∷ []) (tag_of the_type i) → StepsAt t at place before after s r
  no_word i e h = formless (alike-here written (λ f. none) t at i (1 ∷ 2 ∷ 3 ∷ []) (tt, λ x f g. refl, refl, refl) e h)

  module _ {start len number next : ℕ} (l : Looked t at (Item.Word start len number next)) where
    pub no-keyword : keyword_of (word_of number) ≡ none → StepsAt t at place before after s r
    no-keyword e = formless (said l none e)

    pub by-keyword : (k : Keyword) → keyword_of (word_of number) ≡ some k → Steps t next place k before after s r → StepsAt t at place before after s r
    by-keyword k e x = record { says = λ lent p path w h row room. x.says lent p path w h (behind row) room }
      where
        behind : {w : Written} → RowIs (frames_at t at).here (written (frames_at t at).here) w → RowIs (frames_at t next).here (formed k (frames_at t next).here) w
        behind row = record {
          names = rest-good start (take len (drop start t)) (frames_at t next).here (sym (ap names_good l.here) ∙ row.names);
          uncut = rest-whole start (take len (drop start t)) (frames_at t next).here (subst (λ (f : Forms). trim f (max_level - 1) ≡ f) l.here row.uncut);
          form = sym (said l (some k) e) ∙ row.form;
        }
