-- One statement more at the end of a policy, that declares nothing and gives nothing: what was denied stays denied, with the same answer, and a question that
-- does not ask its kind is answered as before. Assumes nothing.
use Prim.Native.Nat.{ℕ, ◌+◌}
use mathlib.Core.Path.{◌≡◌, refl, sym, ap, ◌∙◌}
use mathlib.Core.Bool.{Bool, true, false, false≢true}
use mathlib.Core.List.{List, [], ◌∷◌, ◌++◌}
use mathlib.Core.Option.{none}
use Rattle.policy.specs.Basics.{each, gather, keep}
use Rattle.policy.proofs.Lists.{gather_append, gather-over, any-over, each_append}
use Rattle.policy.specs.Statements.{constrain, validatetrans, Statement, Line, Policy, as_declaration, as_set, as_gives, declared, declarations, set_for, sets_for}
use Rattle.policy.specs.Meaning.{line_gives}
use Rattle.policy.specs.Deciding.{Given, Question, Relabelling, Answer, one_more, consult, first_failing, ruled_by, ruled_relabel}
use Rattle.policy.specs.Answer.{given_by, answer}
use Rattle.answer_laws.specs.Longer.{said, OneConstrainMore, RelabelsApart, is_denied}
use Rattle.answer_laws.proofs.FourTests.{change-tests, relabel-tests, tests-longer}
use Rattle.answer_laws.proofs.SameSets.{SameSets, Ruling, change_ruling, relabel_ruling, taken_in, ruled_with, ruled, change-ruled, relabel-ruled, ruled-same-sets}
use Rattle.answer_laws.proofs.Placeless.{ruled-said}

-- THE STATEMENTS THAT ARE ASKED

ruling-longer : (m : ℕ) (n b : Bool) (i : ℕ) (r s : Answer) → (is_denied r.verdict ≡ true → s ≡ r) → is_denied (consult m n b i r).verdict ≡ true
    → consult m n b i s ≡ consult m n b i r
ruling-longer m false b i r s ih h = ih h
ruling-longer m true false i r s ih h = refl
ruling-longer m true true i r s ih h = ap one_more (ih h)

-- what fails among the first fails among more, at the same number, with as many consulted
pub failing-longer : {A : Type 0} (m : ℕ) (names holds : A → Bool) (i : ℕ) (xs ys : List A)
    → is_denied (first_failing m names holds i xs).verdict ≡ true → first_failing m names holds i (xs ++ ys) ≡ first_failing m names holds i xs
unfolding first_failing
failing-longer m names holds i [] ys h = absurd (false≢true h)
failing-longer m names holds i (x ∷ xs) ys h =
    ruling-longer m (names x) (holds x) i (first_failing m names holds (i + 1) xs) (first_failing m names holds (i + 1) (xs ++ ys))
    (failing-longer m names holds (i + 1) xs ys) h

-- ONE STATEMENT MORE

-- it declares nothing, and gives nothing to attributes and relations
pub record Silent (s : Statement) : Type 0 where
  pub declares : as_declaration s ≡ none
  pub sets : as_set s ≡ none
  pub gives : as_gives s ≡ none

-- a decision keeps a denial of the statements that are asked
pub record KeepsDenial (rule : Given → Answer → Answer) : Type 0 where
  pub keeps : (g : Given) (x y : Answer) → (is_denied x.verdict ≡ true → y ≡ x) → is_denied (rule g x).verdict ≡ true → rule g y ≡ rule g x

change-keeps : (q : Question) → KeepsDenial (λ g rest. ruled_by g q rest)
unfolding ruled_by
change-keeps q = record { keeps = λ g x y. tests-longer 3 _ change-tests _ _ _ _ x y }

relabel-keeps : (q : Relabelling) → KeepsDenial (λ g rest. ruled_relabel g q rest)
unfolding ruled_relabel
relabel-keeps q = record { keeps = λ g x y. tests-longer 5 _ relabel-tests _ _ _ _ x y }

module _ {A : Type 0} (k : Ruling A) (p : Policy) (l : Line) (silent : Silent l.says) where
  same-sets : SameSets p (p ++ (l ∷ []))
  unfolding declarations sets_for
  same-sets = record {
    declares = gather-over declared p l silent.declares;
    sets = λ f a. gather-over (set_for f a) p l (rw silent.sets);
    gives = λ s r x y. any-over (line_gives s r x y) p l (rw (line_gives, silent.gives));
  }

  -- one that the question does not ask
  line-unasked : k.taken l.says ≡ none → ruled k (p ++ (l ∷ [])) ≡ ruled k p
  line-unasked other = ruled-same-sets p (p ++ (l ∷ [])) same-sets k ∙ ap (ruled_with k p) (gather-over (λ (x : Line). k.taken x.says) p l other)

  -- one that it may ask, after a denial
  line-denied : KeepsDenial k.rule → is_denied (ruled k p).verdict ≡ true → ruled k (p ++ (l ∷ [])) ≡ ruled k p
  unfolding gather
  line-denied keeps h =
      ruled-same-sets p (p ++ (l ∷ [])) same-sets k
      ∙ ap (ruled_with k p) (gather_append (λ (x : Line). k.taken x.says) p (l ∷ []))
      ∙ keeps.keeps (given_by p) _ _ (failing-longer k.denial k.names _ 0 (taken_in k p) (keep (k.taken l.says) [])) h

-- wherever the statements stand
module _ {A : Type 0} (k : Ruling A) (p p' : Policy) (s : Statement) (last : said p' ≡ said p ++ (s ∷ [])) (silent : Silent s) where
  line : Line
  line = record { place = 0; says = s }

  moved : ruled k p' ≡ ruled k (p ++ (line ∷ []))
  unfolding said line
  moved = ruled-said k (p ++ (line ∷ [])) p'
      (last ∙ sym (each_append (λ (x : Line). x.says) p (line ∷ []) ∙ ap (λ (r : List Statement). said p ++ r) (unfold each in refl)))

  longer-unasked : k.taken s ≡ none → ruled k p' ≡ ruled k p
  unfolding line
  longer-unasked other = moved ∙ line-unasked k p line silent other

  longer-denied : KeepsDenial k.rule → is_denied (ruled k p).verdict ≡ true → ruled k p' ≡ ruled k p
  unfolding line
  longer-denied keeps h = moved ∙ line-denied k p line silent keeps h

-- DEMAND 3, the last sentence, on the statements: what the shorter policy denies the longer one denies, by the same answer, wherever their statements stand
pub denied-longer : (p p' : Policy) → OneConstrainMore p p' → (q : Question) → is_denied (answer p q).verdict ≡ true → answer p' q ≡ answer p q
denied-longer p p' m q h = rw (change-ruled p' q, change-ruled p q)
    (longer-denied (change_ruling q) p p' (constrain m.class m.perms m.body) m.last (record { declares = refl; sets = refl; gives = refl }) (change-keeps q)
    (rw (← change-ruled p q) h))

-- W-205: the same of relabellings; and neither kind of statement speaks of the other's question
pub relabels-apart : RelabelsApart
relabels-apart = record {
  denies = λ p p' m q h. rw (relabel-ruled p' q, relabel-ruled p q)
      (longer-denied (relabel_ruling q) p p' (validatetrans m.class m.body) m.last (record { declares = refl; sets = refl; gives = refl }) (relabel-keeps q)
      (rw (← relabel-ruled p q) h));
  changes = λ p p' m q. rw (change-ruled p' q, change-ruled p q)
      (longer-unasked (change_ruling q) p p' (validatetrans m.class m.body) m.last (record { declares = refl; sets = refl; gives = refl }) refl);
  relabels = λ p p' m q. rw (relabel-ruled p' q, relabel-ruled p q)
      (longer-unasked (relabel_ruling q) p p' (constrain m.class m.perms m.body) m.last (record { declares = refl; sets = refl; gives = refl }) refl);
}
