-- What the form of a statement gives of it, where every word of the text is a name: FAULT 3's other side. Names that are declared are good parts,
-- a class and a constrain have a permission at least, operators and sides are those that the forms allow. Each law follows the definition of the
-- grammar that it speaks of. Assumes nothing.
use Prim.Native.Nat.{◌<◌, zero-le, suc-le-suc}
use native.Mathlib.Nat.{not-suc-le-zero}
use mathlib.Core.Path.{◌≡◌, refl}
use mathlib.Core.Bool.{Bool, true, false, not, ◌||◌, cond}
use mathlib.Core.List.{List, [], ◌∷◌}
use mathlib.Core.Option.{Option, none, some}
use lib.ListN.{length}
use Rattle.lexer.specs.Class.{is_name}
use Rattle.lexer.specs.Forms.{Forms, closed, ended, word, part, names_good}
use Rattle.policy.specs.Basics.{Name, same, every, All, of_two, Under, lookup}
use Rattle.policy.specs.Words.{is_reserved, as_name, as_part, Keyword, declare_k, class_k, set_k, relation_k, transition_k, constrain_k, relabel_k, Connective, all_c, not_c, and_c}
use Rattle.policy.specs.Words.{or_c, xor_c, keyword_of, expression_word, op_of, is_plain, Sides, two_sides, three_sides, Component, components, component_of}
use Rattle.policy.specs.Grammar.{set_in, are_sides, is_roles, compared, word_then, part_then, two_words, word_and_part, comparison, form_e, connected, expressions}
use Rattle.policy.specs.Grammar.{expression_in, row_of, one_or_more, class_in, of_four, formed, written}
use Rattle.policy.specs.Statements.{Op, Constraint, not_e, and_e, or_e, Relation, gives}
use Rattle.policy.specs.Sound.{is_good_part, good_permissions}
use Rattle.policy.specs.Accepted.{is_side}
use Rattle.policy.proofs.Lists.{both_true, true-both}
use Rattle.policy.proofs.IfAny.{IfAny, nothing, just, and_then, whatever, if-given, if-one, if-two, if-more, at-close}
use Rattle.reading_laws.proofs.FullNames.{part-good}
use Rattle.reading_laws.proofs.ResolvedNames.{Allowed, WellWritten}

abbrev GoodPart : Name → Type 0
GoodPart w = is_good_part w ≡ true

-- NAMES
parts-good : (f : Forms) → names_good f ≡ true → IfAny (All GoodPart) (row_of as_part f)
unfolding row_of names_good
parts-good closed h = just tt
parts-good ended h = nothing
parts-good (word at w r) h = let b = both_true (is_name w) (names_good r) h in if-more _ _ (part-good w b.0) (parts-good r b.1)
parts-good (part p i r) h = nothing

one-or-more : (ps : List Name) → All GoodPart ps → IfAny (λ qs. (0 < length qs) × All GoodPart qs) (one_or_more ps)
one-or-more [] h = nothing
one-or-more (p ∷ ps) h = just (suc-le-suc zero-le, h)

every-good : (ps : List Name) → All GoodPart ps → every is_good_part ps ≡ true
unfolding every
every-good [] h = refl
every-good (p ∷ ps) h = true-both (is_good_part p) (every is_good_part ps) h.0 (every-good ps h.1)

some_good : (ps : List Name) → 0 < length ps → All GoodPart ps → good_permissions ps ≡ true
some_good [] l h = absurd (not-suc-le-zero l)
some_good (p ∷ ps) l h = every-good (p ∷ ps) h

-- ROWS
module _ {A : Type 0} {P : A → Type 0} where
  word-then : (f : Forms) (g : Name → Forms → Option A)
      → ((w : Name) (r : Forms) → (names_good f ≡ true → (is_name w ≡ true) × (names_good r ≡ true)) → IfAny P (g w r)) → IfAny P (word_then f g)
  unfolding names_good
  word-then closed g k = nothing
  word-then ended g k = nothing
  word-then (word at w r) g k = k w r (both_true (is_name w) (names_good r))
  word-then (part p i r) g k = nothing

  part_then_lem : (f : Forms) (g : Forms → Forms → Option A)
      → ((i r : Forms) → (names_good f ≡ true → (names_good i ≡ true) × (names_good r ≡ true)) → IfAny P (g i r)) → IfAny P (part_then f g)
  unfolding names_good
  part_then_lem closed g k = nothing
  part_then_lem ended g k = nothing
  part_then_lem (word at w r) g k = nothing
  part_then_lem (part p i r) g k = k i r (both_true (names_good i) (names_good r))

  two-words : (f : Forms) (g : Name → Name → Option A) → ((v w : Name) → IfAny P (g v w)) → IfAny P (two_words f g)
  two-words f g k = word-then f _ λ v r _. word-then r _ λ w r _. at-close r _ (k v w)

  word-and-part : (f : Forms) (g : Name → Forms → Option A) → names_good f ≡ true
      → ((w : Name) (i : Forms) → is_name w ≡ true → names_good i ≡ true → IfAny P (g w i)) → IfAny P (word_and_part f g)
  word-and-part f g h k = word-then f _ λ w r a. part_then_lem r _ λ i r b. at-close r _ (k w i (a h).0 (b (a h).1).0)

  -- a class that is declared, and one that is used: its name is what the word is taken as
  class-in : (taken : Name → Option Name) (Q : Name → Type 0) → ((w : Name) → is_name w ≡ true → IfAny Q (taken w)) → (f : Forms) (g : Name → List Name → Option A)
      → names_good f ≡ true → ((c : Name) (ps : List Name) → Q c → 0 < length ps → All GoodPart ps → IfAny P (g c ps)) → IfAny P (class_in taken f g)
  class-in taken Q t f g h k = word-and-part f _ h λ c i a b.
      and_then _ _ (t c a) λ c good. and_then _ _ (parts-good i b) λ ps each. and_then _ _ (one-or-more ps each) λ ps both. k c ps good both.0 both.1

-- EXPRESSIONS
-- what is found under a word
if-found : {A : Type 0} (P : A → Type 0) (w : Name) (xs : List (Under A)) → All (λ (x : Under A). P x.value) xs → IfAny P (lookup w xs)
unfolding lookup
if-found P w [] h = nothing
if-found P w (x ∷ xs) h = go (same w x.word) (if-found P w xs h.1)
  where
    go : (b : Bool) → IfAny P (lookup w xs) → IfAny P (cond b (some x.value) (lookup w xs))
    go true k = just h.0
    go false k = k

-- the sides of the words that stand for components are those that an E may name
sides-named : (n : Sides) → All (λ (x : Under Component). is_side n x.value.side ≡ true) (components n)
sides-named two_sides = (refl, (refl, (refl, (refl, (refl, (refl, tt))))))
sides-named three_sides = (refl, (refl, (refl, (refl, (refl, (refl, (refl, (refl, (refl, tt)))))))))

module _ (n : Sides) where
  side-named : (w : Name) → IfAny (λ x. is_side n x.side ≡ true) (component_of n w)
  unfolding component_of
  side-named w = if-found _ w (components n) (sides-named n)

  compared-allowed : (o : Op) (x : Component) (w : Name) (c : Option Component) → is_side n x.side ≡ true → IfAny (Allowed n) (compared o x w c)
  compared-allowed o x w none s = whatever (as_name w) _ λ v. if-given (is_plain o) _ λ h. (h, s)
  compared-allowed o x w (some y) s = if-given _ _ λ h. (both_true (are_sides x y) (is_plain o || is_roles x.family) h).1

  comparison-allowed : (w : Name) (f : Forms) → IfAny (Allowed n) (comparison n w f)
  comparison-allowed w f = whatever (op_of w) _ λ o. two-words f _ λ v w. and_then _ _ (side-named v) λ x s. compared-allowed o x w (component_of n w) s

  form-allowed : (c : Connective) (xs : List (Constraint Name)) → All (Allowed n) xs → IfAny (Allowed n) (form_e c xs)
  form-allowed all_c xs h = nothing
  form-allowed not_c xs h = if-one not_e xs h λ a i. i
  form-allowed and_c xs h = if-two and_e xs h λ a b i j. (i, j)
  form-allowed or_c xs h = if-two or_e xs h λ a b i j. (i, j)
  form-allowed xor_c xs h = nothing

  connected-allowed : (w : Name) (f : Forms) (c : Option Connective) (es : Option (List (Constraint Name))) → IfAny (All (Allowed n)) es
      → IfAny (Allowed n) (connected n w f c es)
  connected-allowed w f none es h = comparison-allowed w f
  connected-allowed w f (some c) es h = and_then es _ h (form-allowed c)

  mutual
    unfolding expressions

    expressions-allowed : (f : Forms) → IfAny (All (Allowed n)) (expressions n f)
    expressions-allowed closed = just tt
    expressions-allowed ended = nothing
    expressions-allowed (word at w r) = nothing
    expressions-allowed (part p i r) = if-more _ _ (expression-allowed i) (expressions-allowed r)

    expression-allowed : (f : Forms) → IfAny (Allowed n) (expression_in n f)
    expression-allowed closed = nothing
    expression-allowed ended = nothing
    expression-allowed (word at w r) = connected-allowed w r (expression_word w) (expressions n r) (expressions-allowed r)
    expression-allowed (part p i r) = nothing

-- STATEMENTS
four-well : (ws : List Name) → IfAny WellWritten (of_four ws)
four-well [] = nothing
four-well (r ∷ []) = nothing
four-well (r ∷ t ∷ []) = nothing
four-well (r ∷ t ∷ c ∷ []) = nothing
four-well (r ∷ t ∷ c ∷ n ∷ []) = just tt
four-well (r ∷ t ∷ c ∷ n ∷ x ∷ xs) = nothing

-- a name that is used may be any
any_name : (w : Name) → is_name w ≡ true → IfAny (λ _. Unit {0}) (as_name w)
any_name w h = if-given (not (is_reserved w)) w λ _. tt

two-well : (r : Relation) (ws : List Name) → IfAny WellWritten (of_two (gives r) ws)
two-well r [] = nothing
two-well r (x ∷ []) = nothing
two-well r (x ∷ y ∷ []) = just tt
two-well r (x ∷ y ∷ z ∷ ws) = nothing

formed-well : (k : Keyword) (f : Forms) → names_good f ≡ true → IfAny WellWritten (formed k f)
formed-well (declare_k s) f h = and_then _ _ (parts-good f h) λ ws g. if-one _ ws g λ w i. i
formed-well class_k f h =
    class-in as_part GoodPart part-good f _ h λ c ps good one each. just (true-both (is_good_part c) (good_permissions ps) good (some_good ps one each))
formed-well (set_k a) f h = word-and-part f _ h λ w i _ _. whatever (as_name w) _ λ w. whatever (set_in i) _ λ s. just tt
formed-well (relation_k r) f h = whatever (row_of as_name f) _ (two-well r)
formed-well transition_k f h = whatever (row_of as_name f) _ four-well
formed-well constrain_k f h = part_then_lem f _ λ i r a. part_then_lem r _ λ j r _. at-close r _
    (class-in as_name (λ _. Unit {0}) any_name i _ (a h).0 λ c ps _ one _. and_then _ _ (expression-allowed two_sides j) λ e ok. just (one, ok))
formed-well relabel_k f h = word-and-part f _ h λ w i _ _. whatever (as_name w) _ λ w. and_then _ _ (expression-allowed three_sides i) λ e ok. just ok

pub written-well : (f : Forms) → names_good f ≡ true → IfAny WellWritten (written f)
unfolding names_good
written-well closed h = nothing
written-well ended h = nothing
written-well (part p i r) h = nothing
written-well (word at w r) h = whatever (keyword_of w) _ λ k. formed-well k r (both_true (is_name w) (names_good r) h).1
