-- Document 02, W-201, in its words: a context whose role is named `object_r` is valid, so that it is never denied by 1 or 2; where the role is not
-- so named, the two relations decide alone, as they did before. By cases on the tests of `decide`. Assumes nothing.
use Prim.Native.Nat.{ℕ, zero, suc, ◌+◌}
use native.Mathlib.Omega.{arith}
use mathlib.Core.Path.{◌≡◌, refl, ap, ◌∙◌}
use mathlib.Core.Bool.{Bool, true, false, ◌||◌, or-true}
use mathlib.Core.List.{List, [], ◌∷◌}
use mathlib.Core.Option.{Option, none, some, some-injective}
use lib.ListN.{get_or, get_elem?}
use Rattle.policy.specs.Basics.{Name, same}
use Rattle.policy.specs.Words.{object_r}
use Rattle.policy.specs.Statements.{roles, thing_of, Declaration, names_of, Policy, declarations, constrains}
use Rattle.policy.specs.Meaning.{Context}
use Rattle.policy.specs.Deciding.{Given, is_object, valid_by, Question, Verdict, granted, denied, fails, refuses, Answer, consult, first_failing, decide, ruled_by}
use Rattle.policy.specs.Answer.{given_by, answer}
use Rattle.policy.specs.Image.{Image}
use Rattle.policy.specs.Questions.{given_in, change}
use Rattle.policy.proofs.Lists.{same-is}
use Rattle.answer_laws.specs.Granting.{RoleNamed}
use Rattle.answer_laws.specs.Before.{NoRoleNamed, valid_before, ruled_before, answer_before, change_before}

-- THE NAME

-- a role without a name is not so named
nameless : same [] object_r ≡ false
unfolding same
nameless = refl

-- what is at a place, and the given value where nothing is
found-there : {A : Type 0} (xs : List A) (k : ℕ) (d x : A) → get_elem? xs k ≡ some x → get_or xs k d ≡ x
found-there [] k d x h = let z : ◌≡◌ {A = ℕ} 0 1 = cc in absurd (omega arith)
found-there (y ∷ ys) zero d x h = some-injective y x h
found-there (y ∷ ys) (suc k) d x h = found-there ys k d x h

nothing-there : {A : Type 0} (xs : List A) (k : ℕ) (d : A) → get_elem? xs k ≡ none → get_or xs k d ≡ d
nothing-there [] k d h = refl
nothing-there (y ∷ ys) zero d h = let z : ◌≡◌ {A = ℕ} 0 1 = cc in absurd (omega arith)
nothing-there (y ∷ ys) (suc k) d h = nothing-there ys k d h

module _ (ds : List Declaration) (r : ℕ) where
  object-named : RoleNamed ds r object_r → is_object ds r ≡ true
  unfolding is_object same
  object-named h = ap (λ (w : Name). same w object_r) (found-there (names_of (thing_of roles) ds) r [] object_r h)

  other-named : (RoleNamed ds r object_r → ⊥) → is_object ds r ≡ false
  unfolding is_object
  other-named not_so = by (get_elem? (names_of (thing_of roles) ds) r) refl
    where
      named : (x : Name) → get_elem? (names_of (thing_of roles) ds) r ≡ some x → (b : Bool) → same x object_r ≡ b → same x object_r ≡ false
      named x e true h = absurd (not_so (e ∙ ap {B = Option Name} some (same-is x object_r h)))
      named x e false h = h

      by : (o : Option Name) → get_elem? (names_of (thing_of roles) ds) r ≡ o → same (get_or (names_of (thing_of roles) ds) r []) object_r ≡ false
      by none e = ap (λ (w : Name). same w object_r) (nothing-there (names_of (thing_of roles) ds) r [] e) ∙ nameless
      by (some x) e = ap (λ (w : Name). same w object_r) (found-there (names_of (thing_of roles) ds) r [] x e) ∙ named x e (same x object_r) refl

-- A VALID CONTEXT

module _ (g : Given) (c : Context) where
  -- "a context whose role is named `object_r` is valid"
  pub object-valid : RoleNamed g.names c.role object_r → valid_by g c ≡ true
  unfolding valid_by
  object-valid h = rw (object-named g.names c.role h) (or-true (valid_before g c))

  -- a role of another name: "the role is among the user's, the type among the role's"
  pub other-valid : (RoleNamed g.names c.role object_r → ⊥) → valid_by g c ≡ valid_before g c
  unfolding valid_by
  other-valid not_so = rw (other-named g.names c.role not_so) (or-false (valid_before g c))
    where
      or-false : (b : Bool) → (b || false) ≡ b
      or-false true = refl
      or-false false = refl

-- AS BEFORE, where no role has the name

module _ (g : Given) (no_such : NoRoleNamed g.names object_r) where
  valid-before : (c : Context) → valid_by g c ≡ valid_before g c
  valid-before c = other-valid g c (no_such c.role)

  ruled-before : (q : Question) (rest : Answer) → ruled_by g q rest ≡ ruled_before g q rest
  unfolding ruled_by
  ruled-before q rest = rw (valid-before q.source, valid-before q.target)

pub answer-before : (p : Policy) → NoRoleNamed (declarations p) object_r → (q : Question) → answer p q ≡ answer_before p q
unfolding answer
answer-before p no_such q = ruled-before (given_by p) no_such q _

module _ (i : Image) (no_such : NoRoleNamed i.names object_r) where
  pub change-before : (q : Question) → change i q ≡ change_before i q
  unfolding change
  change-before q = ruled-before (given_in i) no_such q _

-- THE DENIALS

-- the number of a denial 1 to 3
abbrev pub denial_of : Verdict → ℕ
denial_of granted = 0
denial_of (denied n) = n
denial_of (fails n i) = 0
denial_of (refuses n at) = 0

-- constraints give none of them
none-of-them : {A : Type 0} (m : ℕ) (names holds : A → Bool) (i : ℕ) (xs : List A) → denial_of (first_failing m names holds i xs).verdict ≡ 0
unfolding first_failing
none-of-them m names holds i [] = refl
none-of-them m names holds i (x ∷ xs) = by (names x) (holds x) (first_failing m names holds (i + 1) xs) (none-of-them m names holds (i + 1) xs)
  where
    by : (n b : Bool) (later : Answer) → denial_of later.verdict ≡ 0 → denial_of (consult m n b i later).verdict ≡ 0
    by false b later h = h
    by true false later h = refl
    by true true later h = h

source-passed : (d s t r : Bool) (rest : Answer) → s ≡ true → denial_of rest.verdict ≡ 0 → denial_of (decide d s t r rest).verdict ≡ 1 → ⊥
unfolding decide
source-passed false s t r rest e z h = absurd (omega arith)
source-passed true false t r rest e z h = let z : ◌≡◌ {A = ℕ} 0 1 = cc in absurd (omega arith)
source-passed true true false r rest e z h = absurd (omega arith)
source-passed true true true false rest e z h = absurd (omega arith)
source-passed true true true true rest e z h = absurd (omega arith)

target-passed : (d s t r : Bool) (rest : Answer) → t ≡ true → denial_of rest.verdict ≡ 0 → denial_of (decide d s t r rest).verdict ≡ 2 → ⊥
unfolding decide
target-passed false s t r rest e z h = absurd (omega arith)
target-passed true false t r rest e z h = absurd (omega arith)
target-passed true true false r rest e z h = let z : ◌≡◌ {A = ℕ} 0 1 = cc in absurd (omega arith)
target-passed true true true false rest e z h = absurd (omega arith)
target-passed true true true true rest e z h = absurd (omega arith)

-- "Denials 1 and 2 .. follow this", of the statements and of an image
module _ (p : Policy) (q : Question) where
  pub object-source : RoleNamed (declarations p) q.source.role object_r → denial_of (answer p q).verdict ≡ 1 → ⊥
  unfolding answer ruled_by
  object-source h = source-passed _ _ _ _ _ (object-valid (given_by p) q.source h) (none-of-them 4 _ _ 0 (constrains p))

  pub object-target : RoleNamed (declarations p) q.target.role object_r → denial_of (answer p q).verdict ≡ 2 → ⊥
  unfolding answer ruled_by
  object-target h = target-passed _ _ _ _ _ (object-valid (given_by p) q.target h) (none-of-them 4 _ _ 0 (constrains p))

module _ (i : Image) (q : Question) where
  pub object-source-in : RoleNamed i.names q.source.role object_r → denial_of (change i q).verdict ≡ 1 → ⊥
  unfolding change ruled_by
  object-source-in h = source-passed _ _ _ _ _ (object-valid (given_in i) q.source h) (none-of-them 4 _ _ 0 i.constraints)

  pub object-target-in : RoleNamed i.names q.target.role object_r → denial_of (change i q).verdict ≡ 2 → ⊥
  unfolding change ruled_by
  object-target-in h = target-passed _ _ _ _ _ (object-valid (given_in i) q.target h) (none-of-them 4 _ _ 0 i.constraints)
