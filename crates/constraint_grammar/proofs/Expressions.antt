-- How the operands of a constraint expression are counted, by the first of them and from its beginning. Assumes nothing.
use mathlib.Core.Path.{◌≡◌, refl, sym, ap, ◌∙◌}
use mathlib.Core.Bool.{Bool, true, false, cond, ◌&&◌}
use mathlib.Core.List.{List, [], ◌∷◌}
use mathlib.Core.Option.{Option, none, some}
use Prim.Native.Nat.{ℕ, ◌+◌}
use lib.ListN.{take, drop}
use Rattle.std.specs.Prelude.{Some, None}
use Rattle.lexer.specs.Forms.{Forms, closed, ended, word, part, frames_at, trim}
use Rattle.policy.specs.Basics.{Name, same, lookup}
use Rattle.policy.specs.Words.{Connective, not_c, and_c, or_c, expression_word, Sides}
use Rattle.policy.specs.Statements.{Constraint, not_e, and_e, or_e}
use Rattle.policy.specs.Grammar.{comparison, connected, expressions, expression_in}
use Rattle.words.specs.Numbers.{number_of, word_of}
use Rattle.words.proofs.Meaning.{expression-number}
use Rattle.items.specs.Looks.{item_at}
use Rattle.items.specs.Reads.{is_some, enough, counted}
use Rattle.items.specs.declared.Item.{Item}
use Rattle.items.specs.declared.Wanted.{Wanted}
use Rattle.items.proofs.Items.{Looked, by_word, no_word, alike}
use Rattle.items.proofs.Counts.{one_more, one_less, no_more, of_one_lem, of_two_lem}
use Rattle.constraint_grammar.specs.Comparisons.{both_sides}
use Rattle.constraint_grammar.specs.Operators.{joins_of}
use Rattle.constraint_grammar.proofs.ComparisonLaws.{compare-is, trim-sides}

-- E has no other operators than these
by-operator : (P : Option Connective → Type 0) → P none → P (some not_c) → P (some and_c) → P (some or_c) → (w : Name) → P (expression_word w)
unfolding expression_word lookup
by-operator P a b c d w = go (same w _) (same w _) (same w _)
  where
    go : (x y z : Bool) → P (cond x (some not_c) (cond y (some and_c) (cond z (some or_c) none)))
    go true y z = b
    go false true z = c
    go false false true = d
    go false false false = a

-- of an E that may name the sides
module _ (sides : Sides) where
  -- ---- the operands of an E, by the first of them, after n

  module _ (v : Wanted) (n : ℕ) where
    pub part-operand : (p : ℕ) (f g : Forms) (b : Bool) → is_some (expression_in sides f) ≡ b
        → counted v n (expressions sides (part p f g)) ≡ b && counted v (n + 1) (expressions sides g)
    unfolding expressions
    part-operand p f g true h = one_more v n (expression_in sides f) (expressions sides g) h
    part-operand p f g false h = one_less v n (expression_in sides f) (expressions sides g) h

    pub close-operand : counted v n (expressions sides closed) ≡ enough v n
    unfolding expressions
    close-operand = no_more (Constraint Name) v n

    pub end-operand : counted v n (expressions sides ended) ≡ false
    unfolding expressions counted
    end-operand = refl

    pub word-operand : (s : ℕ) (b : Name) (f : Forms) → counted v n (expressions sides (word s b f)) ≡ false
    unfolding expressions counted
    word-operand s b f = refl

  -- ---- how an E begins

  -- with a comparison's word, or with an operator
  joins-by : (w : Name) (f : Forms) → joins_of (expression_word w) ≡ None → connected sides w f (expression_word w) (expressions sides f) ≡ comparison sides w f
  joins-by w f =
      by-operator (λ o. joins_of o ≡ None → connected sides w f o (expressions sides f) ≡ comparison sides w f) (λ e. refl) (λ e. absurd cc) (λ e. absurd cc)
      (λ e. absurd cc) w

  -- so many operands, and no others
  abbrev joining : ℕ → Forms → Bool
  joining j f = counted (Wanted.Exactly j) 0 (expressions sides f)

  operator-by : (w : Name) (f : Forms) (j : ℕ) → joins_of (expression_word w) ≡ Some j → joining j f ≡ is_some (connected sides w f (expression_word w) (expressions sides f))
  operator-by w f j =
      by-operator (λ o. joins_of o ≡ Some j → joining j f ≡ is_some (connected sides w f o (expressions sides f))) (λ e. absurd cc)
      (λ e. let d : 1 ≡ j = cc in rw (sym d) (of_one_lem not_e (expressions sides f)))
      (λ e. let d : 2 ≡ j = cc in rw (sym d) (of_two_lem and_e (expressions sides f)))
      (λ e. let d : 2 ≡ j = cc in rw (sym d) (of_two_lem or_e (expressions sides f))) w

  abbrev whole : Forms → Bool
  whole f = is_some (expression_in sides f)

  -- what is read after a first word, by what its number joins
  module _ {t : List ℕ} {at s m k q : ℕ} (l : Looked t at (Item.Word s m k q)) (n : ℕ) where
    abbrev first : Name
    first = take m (drop s t)

    by_number : joins_of (expression_word first) ≡ joins_of (expression_word (word_of k))
    by_number = ap joins_of (expression-number first) ∙ ap (λ (n : ℕ). joins_of (expression_word (word_of n))) l.ahead.2

    pub compares-row : joins_of (expression_word (word_of k)) ≡ None → whole (trim (frames_at t at).here n) ≡ both_sides sides k (frames_at t q).here
    unfolding expression_in
    compares-row h =
        by_word whole n l
        ∙ ap is_some (joins-by first (trim (frames_at t q).here n) (by_number ∙ h))
        ∙ compare-is sides first (trim (frames_at t q).here n)
        ∙ trim-sides sides (frames_at t q).here n (number_of first)
        ∙ ap (λ (i : ℕ). both_sides sides i (frames_at t q).here) l.ahead.2

    pub joins-row : (j : ℕ) → joins_of (expression_word (word_of k)) ≡ Some j → joining j (trim (frames_at t q).here n) ≡ whole (trim (frames_at t at).here n)
    unfolding expression_in
    joins-row j h = operator-by first (trim (frames_at t q).here n) j (by_number ∙ h) ∙ sym (by_word whole n l)

  -- with any other item it is none
  pub no-expression : (t : List ℕ) (at n : ℕ) (r : Item) → r ≡ item_at t at → ((s m k q : ℕ) → r ≡ Item.Word s m k q → ⊥) → whole (trim (frames_at t at).here n) ≡ false
  unfolding expression_in
  no-expression t at n r e h = alike whole (λ f. false) t at r (1 ∷ 2 ∷ 3 ∷ []) n (tt, λ x f g. refl, refl, refl) e (no_word r h)
