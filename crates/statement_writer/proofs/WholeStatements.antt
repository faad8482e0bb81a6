-- The code of a statement of a good form by the row after its keyword: the tag, the place, and what the names of the row have as units. Assumes
-- nothing.
use mathlib.Core.Path.{◌≡◌, refl, sym, ap, ap₂, ◌∙◌}
use mathlib.Core.Bool.{Bool, true, false, not}
use mathlib.Core.List.{List, [], ◌∷◌}
use mathlib.Core.Option.{Option, none, some, some-injective, none-ne-some}
use Prim.Native.Nat.{ℕ}
use Rattle.lexer.specs.Forms.{Forms, closed, ended, word, part}
use Rattle.policy.specs.Answers.{family_of}
use Rattle.policy.specs.declared.Family as theFamily
use Rattle.policy.specs.Basics.{Name, ◌>>=◌, given, more, of_two}
use Rattle.policy.specs.Words.{is_reserved, as_name, set_k, relation_k, transition_k}
use Rattle.policy.specs.Statements.{Family, roles, types, thing_of, attribute_of, Reference, SetExpr, Relation, from_of, to_of, attributeset, gives, roletransition, Written, Statement}
use Rattle.policy.specs.Grammar.{row_of, set_in, of_four, formed}
use Rattle.policy.specs.Names.{refer, Environment, number_in}
use Rattle.policy.specs.Reading.{refer_s, resolved}
use Rattle.statement_code.specs.Code.{reference_unit, set_code, set_tag, relation_tag, transition_tag, statement_code}
use Rattle.statement_writer.specs.NameKinds.{unit_in, first_unit, behind_first, names_units}
use Rattle.statement_writer.specs.declared.Kind.{Kind}

-- the code of a statement, where its names are declared
abbrev pub code_in : ℕ → Option Statement → Option (List ℕ)
code_in place o = o >>= λ s. some (statement_code place s)

-- a tag and a place before units, where they are there
abbrev pub headed : ℕ → ℕ → Option (List ℕ) → Option (List ℕ)
headed tag place o = o >>= λ us. some (tag ∷ place ∷ us)

-- ---- a row of names

abbrev units_of : Environment → List Kind → List Name → Option (List ℕ)
units_of env [] ws = some []
units_of env (k ∷ ks) [] = none
units_of env (k ∷ ks) (w ∷ ws) = unit_in env k w >>= λ u. units_of env ks ws >>= λ us. some (u ∷ us)

row-units : (env : Environment) (ks : List Kind) (g : Forms) (ws : List Name) → row_of as_name g ≡ some ws → names_units env ks g ≡ units_of env ks ws
unfolding row_of
row-units env [] g ws h = refl
row-units env (k ∷ ks) closed ws h = ap (units_of env (k ∷ ks)) (some-injective [] ws h)
row-units env (k ∷ ks) ended ws h = absurd (none-ne-some ws h)
row-units env (k ∷ ks) (part p i g) ws h = absurd (none-ne-some ws h)
row-units env (k ∷ ks) (word s w g) ws h = go (row-units env ks g) (not (is_reserved w)) (row_of as_name g) refl h
  where
    go : ((vs : List Name) → row_of as_name g ≡ some vs → names_units env ks g ≡ units_of env ks vs) → (b : Bool) (o : Option (List Name)) → row_of as_name g ≡ o
        → more (given b w) o ≡ some ws
        → (unit_in env k w >>= λ u. names_units env ks g >>= λ us. some (u ∷ us)) ≡ units_of env (k ∷ ks) ws
    go ih false o e q = absurd (none-ne-some ws q)
    go ih true none e q = absurd (none-ne-some ws q)
    go ih true (some vs) e q =
        ap (λ (o : Option (List ℕ)). unit_in env k w >>= λ u. o >>= λ us. some (u ∷ us)) (ih vs e)
        ∙ ap (units_of env (k ∷ ks)) (some-injective (w ∷ vs) ws q)

-- ---- references

abbrev units_in : Option Reference → Option ℕ
units_in o = o >>= λ x. some (reference_unit x)

-- ---- "`(userrole U R)`, `(roletype R T)`, `(roleallow R R)`"

abbrev two : Option ℕ → Option ℕ → Option (List ℕ)
two x y = x >>= λ x. (y >>= λ y. some (y ∷ [])) >>= λ us. some (x ∷ us)

module _ (env : Environment) (place : ℕ) (r : Relation) (a b : theFamily.Family) (from : family_of a ≡ from_of r) (to : family_of b ≡ to_of r) where
  two-units : (x y : Option Reference) → code_in place (x >>= λ x. y >>= λ y. some (gives r x y))
      ≡ headed (relation_tag r) place (two (units_in x) (units_in y))
  two-units none y = refl
  two-units (some x) none = refl
  two-units (some x) (some y) = refl

  abbrev pair : Name → Name → Family → Family → Option (List ℕ)
  pair x y f g = headed (relation_tag r) place (two (units_in (refer env f x)) (units_in (refer env g y)))

  pub relation-whole : (g : Forms) (w : Written) → formed (relation_k r) g ≡ some w
      → code_in place (resolved env w) ≡ headed (relation_tag r) place (names_units env (Kind.Reference a ∷ Kind.Reference b ∷ []) g)
  relation-whole g w h = go (row_of as_name g) refl h
    where
      go : (o : Option (List Name)) → row_of as_name g ≡ o → (o >>= of_two (gives r)) ≡ some w
          → code_in place (resolved env w) ≡ headed (relation_tag r) place (names_units env (Kind.Reference a ∷ Kind.Reference b ∷ []) g)
      go none e q = absurd (none-ne-some w q)
      go (some []) e q = absurd (none-ne-some w q)
      go (some (x ∷ [])) e q = absurd (none-ne-some w q)
      go (some (x ∷ y ∷ z ∷ xs)) e q = absurd (none-ne-some w q)
      go (some (x ∷ y ∷ [])) e q =
          ap (λ (v : Written). code_in place (resolved env v)) (sym (some-injective (gives r x y) w q))
          ∙ two-units (refer env (from_of r) x) (refer env (to_of r) y) ∙ ap₂ (pair x y) (sym from) (sym to)
          ∙ ap (headed (relation_tag r) place) (sym (row-units env (Kind.Reference a ∷ Kind.Reference b ∷ []) g (x ∷ y ∷ []) e))

-- ---- "`(roletransition R T C R)`: the first two may be attributes, the new role may not"

abbrev pub transition_kinds : List Kind
transition_kinds = Kind.Reference theFamily.Family.Roles ∷ Kind.Reference theFamily.Family.Types ∷ Kind.Class ∷ Kind.Role ∷ []

abbrev four : Option ℕ → Option ℕ → Option ℕ → Option ℕ → Option (List ℕ)
four x y c n =
    x >>= λ x. (y >>= λ y. (c >>= λ c. (n >>= λ n. some (n ∷ [])) >>= λ us. some (c ∷ us)) >>= λ us. some (y ∷ us)) >>= λ us. some (x ∷ us)

module _ (env : Environment) (place : ℕ) where
  four-units : (x y : Option Reference) (c n : Option ℕ) → code_in place (x >>= λ x. y >>= λ y. c >>= λ c. n >>= λ n. some (roletransition x y c n))
      ≡ headed transition_tag place (four (units_in x) (units_in y) c n)
  four-units none y c n = refl
  four-units (some x) none c n = refl
  four-units (some x) (some y) none n = refl
  four-units (some x) (some y) (some c) none = refl
  four-units (some x) (some y) (some c) (some n) = refl

  pub transition-whole : (g : Forms) (w : Written) → formed transition_k g ≡ some w
      → code_in place (resolved env w) ≡ headed transition_tag place (names_units env transition_kinds g)
  transition-whole g w h = go (row_of as_name g) refl h
    where
      go : (o : Option (List Name)) → row_of as_name g ≡ o → (o >>= of_four) ≡ some w
          → code_in place (resolved env w) ≡ headed transition_tag place (names_units env transition_kinds g)
      go none e q = absurd (none-ne-some w q)
      go (some []) e q = absurd (none-ne-some w q)
      go (some (x ∷ [])) e q = absurd (none-ne-some w q)
      go (some (x ∷ y ∷ [])) e q = absurd (none-ne-some w q)
      go (some (x ∷ y ∷ c ∷ [])) e q = absurd (none-ne-some w q)
      go (some (x ∷ y ∷ c ∷ n ∷ z ∷ xs)) e q = absurd (none-ne-some w q)
      go (some (x ∷ y ∷ c ∷ n ∷ [])) e q =
          ap (λ (v : Written). code_in place (resolved env v)) (sym (some-injective (roletransition x y c n) w q))
          ∙ four-units (refer env roles x) (refer env types y) (env.class c) (number_in env (thing_of roles) n)
          ∙ ap (headed transition_tag place) (sym (row-units env transition_kinds g (x ∷ y ∷ c ∷ n ∷ []) e))

-- ---- "`(userattributeset A S)`, and the same for roles and types"

-- the row holds a name, and a part that holds S
pub record SetRow (f : Family) (g : Forms) (w : Written) : Type 0 where
  pub name : Name
  pub at : ℕ
  pub inner : Forms
  pub set : SetExpr Name
  pub first : (env : Environment) (k : Kind) → first_unit env k g ≡ unit_in env k name
  pub behind : behind_first g ≡ part at inner closed
  pub in-part : set_in inner ≡ some set
  pub is : w ≡ attributeset f name set

pub set-row : (f : Family) (g : Forms) (w : Written) → formed (set_k f) g ≡ some w → SetRow f g w
set-row f closed w h = absurd (none-ne-some w h)
set-row f ended w h = absurd (none-ne-some w h)
set-row f (part p i g) w h = absurd (none-ne-some w h)
set-row f (word s a closed) w h = absurd (none-ne-some w h)
set-row f (word s a ended) w h = absurd (none-ne-some w h)
set-row f (word s a (word r b g)) w h = absurd (none-ne-some w h)
set-row f (word s a (part p i ended)) w h = absurd (none-ne-some w h)
set-row f (word s a (part p i (word r b g))) w h = absurd (none-ne-some w h)
set-row f (word s a (part p i (part r j g))) w h = absurd (none-ne-some w h)
set-row f (word s a (part p i closed)) w h = go (not (is_reserved a)) (set_in i) refl h
  where
    go : (b : Bool) (o : Option (SetExpr Name)) → set_in i ≡ o → (given b a >>= λ a. o >>= λ x. some (attributeset f a x)) ≡ some w → SetRow f (word s a (part p i closed)) w
    go false o e q = absurd (none-ne-some w q)
    go true none e q = absurd (none-ne-some w q)
    go true (some x) e q = record {
      name = a;
      at = p;
      inner = i;
      set = x;
      first = λ env k. refl;
      behind = refl;
      in-part = e;
      is = sym (some-injective (attributeset f a x) w q);
    }

-- the number of an attribute and the code of S
abbrev pub number_and_set : Option ℕ → Option (SetExpr Reference) → Option (List ℕ)
number_and_set n x = n >>= λ n. x >>= λ x. some (n ∷ set_code x)

module _ (env : Environment) (place : ℕ) (a : theFamily.Family) where
  set-units : (f : Family) (n : Option ℕ) (x : Option (SetExpr Reference)) → code_in place (n >>= λ n. x >>= λ x. some (attributeset f n x))
      ≡ headed (set_tag f) place (number_and_set n x)
  set-units f none x = refl
  set-units f (some n) none = refl
  set-units f (some n) (some x) = refl

  pub set-whole : (g : Forms) (w : Written) (s : SetRow (family_of a) g w)
      → code_in place (resolved env w) ≡ headed (set_tag (family_of a)) place (number_and_set (first_unit env (Kind.Attribute a) g) (refer_s env (family_of a) s.set))
  set-whole g w s =
      ap (λ (v : Written). code_in place (resolved env v)) s.is
      ∙ set-units (family_of a) (number_in env (attribute_of (family_of a)) s.name) (refer_s env (family_of a) s.set)
      ∙ ap (λ (o : Option ℕ). headed (set_tag (family_of a)) place (number_and_set o (refer_s env (family_of a) s.set))) (sym (s.first env (Kind.Attribute a)))
