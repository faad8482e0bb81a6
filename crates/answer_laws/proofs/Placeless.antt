-- The statements answer by what they say, wherever they stand: two policies that say the same, blanks and comments aside, give the same answers.
-- Assumes nothing.
use mathlib.Core.Path.{◌≡◌, refl, sym, ap, ◌∙◌}
use mathlib.Core.Bool.{Bool}
use mathlib.Core.List.{List, [], ◌∷◌}
use mathlib.Core.Option.{Option}
use Rattle.policy.specs.Basics.{any, each, gather}
use Rattle.policy.specs.Statements.{Statement, Line, Policy, declared, declarations, set_for, sets_for}
use Rattle.policy.specs.Meaning.{line_gives}
use Rattle.answer_laws.specs.Longer.{said}
use Rattle.answer_laws.proofs.SameSets.{SameSets, Ruling, ruled_with, ruled, ruled-same-sets}

-- a statement at place 0
abbrev placeless : Statement → Line
placeless s = record { place = 0; says = s }

-- what is gathered, and what is tested, by what each line says alone
gathered : {B : Type 0} (f : Line → Option B) → ((l : Line) → f (placeless l.says) ≡ f l) → (p : Policy) → gather f (each placeless (said p)) ≡ gather f p
unfolding said gather each
gathered f h [] = refl
gathered f h (l ∷ p) = rw (h l, gathered f h p)

tested : (f : Line → Bool) → ((l : Line) → f (placeless l.says) ≡ f l) → (p : Policy) → any f (each placeless (said p)) ≡ any f p
unfolding said any each
tested f h [] = refl
tested f h (l ∷ p) = rw (h l, tested f h p)

module _ (p : Policy) where
  same-sets : SameSets p (each placeless (said p))
  unfolding declarations sets_for
  same-sets = record {
    declares = gathered declared (λ l. refl) p;
    sets = λ f a. gathered (set_for f a) (λ l. refl) p;
    gives = λ s k x y. tested (line_gives s k x y) (λ l. refl) p;
  }

  ruled-placeless : {A : Type 0} (k : Ruling A) → ruled k (each placeless (said p)) ≡ ruled k p
  ruled-placeless k =
      ruled-same-sets p (each placeless (said p)) same-sets k ∙ ap (ruled_with k p) (gathered (λ (l : Line). k.taken l.says) (λ l. refl) p)

-- the answer does not depend on places
pub ruled-said : {A : Type 0} (k : Ruling A) (p p' : Policy) → said p' ≡ said p → ruled k p' ≡ ruled k p
ruled-said k p p' h = sym (ruled-placeless p' k) ∙ ap (λ (ss : List Statement). ruled k (each placeless ss)) h ∙ ruled-placeless p k
