-- An expression that may name two sides is the same expression where it may name three: W-205 adds words, and none of them may be a name. So what is
-- written of expressions of three sides is written of those of two. Assumes nothing.
use mathlib.Core.Path.{◌≡◌, refl, sym, ap, ◌∙◌}
use mathlib.Core.Bool.{Bool, true, false, cond}
use Prim.Native.Nat.{ℕ}
use mathlib.Core.List.{List, ◌∷◌}
use mathlib.Core.Option.{Option, none, some}
use Rattle.std.specs.Prelude as prelude
use Rattle.lexer.specs.Forms.{Forms, closed, ended, word, part}
use Rattle.policy.specs.Basics.{Name, same, Under, lookup, ◌>>=◌, more}
use Rattle.policy.specs.Words.{is_reserved, op_of, Connective, expression_word, Sides, two_sides, three_sides, Component, component}
use Rattle.policy.specs.Words.{of_two_sides, component_of, ◌↦→◌}
use Rattle.policy.specs.Statements.{users, roles, types, process, Op, Constraint}
use Rattle.policy.specs.Grammar.{compared, comparison, connected, expressions, expression_in}
use Rattle.policy.proofs.Lists.{same-is}
use Rattle.words.proofs.Meaning.{name-no-component}
use Rattle.constraint_writer.specs.ExpressionWrites.{Writes}
use Rattle.constraint_writer.specs.declared.RowsWritten.{RowsWritten}
use Rattle.constraint_writer.proofs.WrittenRows.{never}

-- what is under a word stays under it, with another word before it
with_first : {A : Type 0} (w : Name) (x : A) (u : Under A) (xs : List (Under A)) → lookup u.word xs ≡ none → lookup w xs ≡ some x → lookup w (u ∷ xs) ≡ some x
unfolding lookup
with_first w x u xs n h = go (same w u.word) refl
  where
    go : (b : Bool) → same w u.word ≡ b → cond b (some u.value) (lookup w xs) ≡ some x
    go true e = never (sym n ∙ ap (λ (v : Name). lookup v xs) (sym (same-is w u.word e)) ∙ h)
    go false e = h

component-three : (w : Name) (x : Component) → component_of two_sides w ≡ some x → component_of three_sides w ≡ some x
unfolding same lookup component_of
component-three w x h =
    let third-type = "t3" ↦→ component types process in
    let third-role = "r3" ↦→ component roles process in
    with_first w x ("u3" ↦→ component users process) (third-role ∷ third-type ∷ of_two_sides) refl
    (with_first w x third-role (third-type ∷ of_two_sides) refl (with_first w x third-type of_two_sides refl h))

-- ---- a comparison

compared-three : (o : Op) (x : Component) (w : Name) (e : Constraint Name) → compared o x w (component_of two_sides w) ≡ some e
    → compared o x w (component_of three_sides w) ≡ some e
compared-three o x w e h = go (component_of two_sides w) refl (is_reserved w) refl
  where
    go : (y : Option Component) → component_of two_sides w ≡ y → (b : Bool) → is_reserved w ≡ b → compared o x w (component_of three_sides w) ≡ some e
    go (some y) d b r = rw (component-three w y d) (rw d at h)
    go none d true r = never (rw (d, r) at h)
    go none d false r = rw (name-no-component three_sides w r) (rw d at h)

words-three : (o : Option Op) (v w : Name) (e : Constraint Name) → (o >>= λ o. component_of two_sides v >>= λ x. compared o x w (component_of two_sides w)) ≡ some e
    → (o >>= λ o. component_of three_sides v >>= λ x. compared o x w (component_of three_sides w)) ≡ some e
words-three none v w e h = never h
words-three (some o) v w e h = go (component_of two_sides v) refl
  where
    go : (x : Option Component) → component_of two_sides v ≡ x → (component_of three_sides v >>= λ x. compared o x w (component_of three_sides w)) ≡ some e
    go none d = never (rw d at h)
    go (some x) d = rw (component-three v x d) (compared-three o x w e (rw d at h))

no-comparison : {e : Constraint Name} {X : Type 0} (o : Option Op) → ◌≡◌ {A = Option (Constraint Name)} (o >>= λ x. none) (some e) → X
no-comparison none h = never h
no-comparison (some o) h = never h

comparison-three : (w : Name) (f : Forms) (e : Constraint Name) → comparison two_sides w f ≡ some e → comparison three_sides w f ≡ some e
comparison-three w closed e h = no-comparison (op_of w) h
comparison-three w ended e h = no-comparison (op_of w) h
comparison-three w (part p f g) e h = no-comparison (op_of w) h
comparison-three w (word s v closed) e h = no-comparison (op_of w) h
comparison-three w (word s v ended) e h = no-comparison (op_of w) h
comparison-three w (word s v (part p f g)) e h = no-comparison (op_of w) h
comparison-three w (word s v (word r u closed)) e h = words-three (op_of w) v u e h
comparison-three w (word s v (word r u ended)) e h = no-comparison (op_of w) h
comparison-three w (word s v (word r u (word q x f))) e h = no-comparison (op_of w) h
comparison-three w (word s v (word r u (part p f g))) e h = no-comparison (op_of w) h

-- ---- an expression

-- one part of a row more
more-three : {A : Type 0} (x y : Option A) (xs ys : Option (List A)) (l : List A) → ((a : A) → x ≡ some a → y ≡ some a) → ((k : List A) → xs ≡ some k → ys ≡ some k)
    → more x xs ≡ some l → more y ys ≡ some l
more-three none y xs ys l f g h = never h
more-three (some a) y none ys l f g h = never h
more-three (some a) y (some k) ys l f g h = rw (f a refl, g k refl) h

connected-three : (w : Name) (f : Forms) (c : Option Connective) (xs ys : Option (List (Constraint Name))) (e : Constraint Name)
    → ((k : List (Constraint Name)) → xs ≡ some k → ys ≡ some k) → connected two_sides w f c xs ≡ some e → connected three_sides w f c ys ≡ some e
connected-three w f none xs ys e g h = comparison-three w f e h
connected-three w f (some c) none ys e g h = never h
connected-three w f (some c) (some k) ys e g h = rw (g k refl) h

mutual
  unfolding expressions

  expressions-three : (f : Forms) (l : List (Constraint Name)) → expressions two_sides f ≡ some l → expressions three_sides f ≡ some l
  expressions-three closed l h = h
  expressions-three ended l h = never h
  expressions-three (word s w f) l h = never h
  expressions-three (part p i f) l h =
      more-three (expression_in two_sides i) (expression_in three_sides i) (expressions two_sides f) (expressions three_sides f) l
      (λ a d. expression-three i a d) (λ k d. expressions-three f k d) h

  expression-three : (f : Forms) (e : Constraint Name) → expression_in two_sides f ≡ some e → expression_in three_sides f ≡ some e
  expression-three closed e h = never h
  expression-three ended e h = never h
  expression-three (word s w f) e h =
      connected-three w f (expression_word w) (expressions two_sides f) (expressions three_sides f) e (λ k d. expressions-three f k d) h
  expression-three (part p i f) e h = never h

in_three : (n : Sides) (f : Forms) (e : Constraint Name) → expression_in n f ≡ some e → expression_in three_sides f ≡ some e
in_three two_sides f e h = expression-three f e h
in_three three_sides f e h = h

-- what is written of an expression of three sides is written of one of any
pub of-any : {t symbols before after : List ℕ} {at row : ℕ} {r : prelude.Option RowsWritten} (f : Forms) (n : Sides)
    → Writes t at (expression_in three_sides f) symbols before after row r → Writes t at (expression_in n f) symbols before after row r
of-any f n w = record {
  kept = w.kept;
  reads = w.reads;
  needs = λ e h. w.needs e (in_three n f e h);
  rows = λ env e y h. w.rows env e y (in_three n f e h);
}
