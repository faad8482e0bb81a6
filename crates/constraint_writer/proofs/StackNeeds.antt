-- The stack need of an operator's expression, operand by operand: an operand is worked out with the values of those before it on the stack. Assumes
-- nothing.
use mathlib.Core.Path.{◌≡◌, refl, sym, ap, ◌∙◌}
use mathlib.Core.List.{List, [], ◌∷◌}
use mathlib.Core.Option.{Option, none, some, some-injective}
use Prim.Native.Nat.{ℕ, max, ◌+◌}
use native.Mathlib.Nat.{zero-add, zero-max}
use Rattle.std.specs.Prelude.{Some}
use Rattle.std.proofs.lemmas.Option.{none-some}
use Rattle.lexer.specs.Forms.{Forms, closed, part}
use Rattle.policy.specs.Basics.{Name, more, of_one, of_two}
use Rattle.policy.specs.Words.{Connective, all_c, not_c, and_c, or_c, xor_c, three_sides}
use Rattle.policy.specs.Statements.{Constraint, not_e, and_e, or_e, need}
use Rattle.policy.specs.Grammar.{form_e, connected, expressions, expression_in}
use Rattle.constraint_writer.specs.RowFields.{kind_of}
use Rattle.constraint_writer.proofs.WrittenRows.{never}

-- what an operator needs, by the operands that are left, after c of them, for which d is needed
unfoldable pub need_with : List (Constraint Name) → ℕ → ℕ → ℕ
need_with [] c d = d
need_with (e ∷ es) c d = need_with es (c + 1) (max d (c + need e))

abbrev pub need_left : Option (List (Constraint Name)) → ℕ → ℕ → Option ℕ
need_left none c d = none
need_left (some es) c d = some (need_with es c d)

-- ---- from the beginning

first-need : (a : ℕ) → max 0 (0 + a) ≡ a
first-need a = zero-max (0 + a) ∙ zero-add a

-- "`not E` that of E"
of_one_lem : (es : List (Constraint Name)) (e : Constraint Name) → of_one not_e es ≡ some e → need_with es 0 0 ≡ need e
unfolding need_with need
of_one_lem [] e h = never h
of_one_lem (a ∷ []) e h = first-need (need a) ∙ ap need (some-injective (not_e a) e h)
of_one_lem (a ∷ b ∷ es) e h = never h

-- "`and`/`or` of E and F the larger of need(E) and 1 + need(F)"
of_two_lem : (join : Constraint Name → Constraint Name → Constraint Name) → ((a b : Constraint Name) → max (need a) (1 + need b) ≡ need (join a b))
    → (es : List (Constraint Name)) (e : Constraint Name) → of_two join es ≡ some e → need_with es 0 0 ≡ need e
unfolding need_with
of_two_lem join j [] e h = never h
of_two_lem join j (a ∷ []) e h = never h
of_two_lem join j (a ∷ b ∷ []) e h =
    ap (λ (n : ℕ). max n (1 + need b)) (first-need (need a)) ∙ j a b ∙ ap need (some-injective (join a b) e h)
of_two_lem join j (a ∷ b ∷ c ∷ es) e h = never h

of-form : (c : Connective) (es : List (Constraint Name)) (e : Constraint Name) → form_e c es ≡ some e → need_with es 0 0 ≡ need e
unfolding need
of-form all_c es e h = never h
of-form xor_c es e h = never h
of-form not_c es e h = of_one_lem es e h
of-form and_c es e h = of_two_lem and_e (λ a b. refl) es e h
of-form or_c es e h = of_two_lem or_e (λ a b. refl) es e h

pub none_yet : (w : Name) (f : Forms) (c : Option Connective) (es : Option (List (Constraint Name))) (e : Constraint Name) (kind : ℕ) → Some kind ≡ kind_of c
    → connected three_sides w f c es ≡ some e → need_left es 0 0 ≡ some (need e)
none_yet w f none es e kind h g = absurd (none-some kind (sym h))
none_yet w f (some c) none e kind h g = never g
none_yet w f (some c) (some es) e kind h g = ap some (of-form c es e g)

-- ---- by the next operand, which needs a, and at the close

module _ (c d k : ℕ) where
  one_more : (o : Option (Constraint Name)) (r : Option (List (Constraint Name))) (a : ℕ) → ((x : Constraint Name) → o ≡ some x → a ≡ need x)
      → need_left (more o r) c d ≡ some k → need_left r (c + 1) (max d (c + a)) ≡ some k
  unfolding need_with
  one_more none r a w h = never h
  one_more (some x) none a w h = never h
  one_more (some x) (some xs) a w h = rw (w x refl) h

  pub part-needs : (p : ℕ) (f g : Forms) (a : ℕ) → ((x : Constraint Name) → expression_in three_sides f ≡ some x → a ≡ need x)
      → need_left (expressions three_sides (part p f g)) c d ≡ some k → need_left (expressions three_sides g) (c + 1) (max d (c + a)) ≡ some k
  unfolding expressions
  part-needs p f g a w h = one_more (expression_in three_sides f) (expressions three_sides g) a w h

  pub close-needs : need_left (expressions three_sides closed) c d ≡ some k → d ≡ k
  unfolding expressions need_with
  close-needs h = some-injective d k h
