-- Two environments that say the same of every name with a property resolve a statement alike whose names have it. At the whole-text level,
-- and for names without a dot, today's environment and document 01's are two such. Assumes nothing.
use mathlib.Core.Path.{◌≡◌, refl, ap, ◌∙◌}
use Prim.Native.Nat.{ℕ}
use mathlib.Core.Bool.{true, false, not}
use mathlib.Core.List.{List, [], ◌∷◌}
use mathlib.Core.Option.{Option, none, some}
use borrow.Author.Tests.{not-true}
use Rattle.lexer.specs.Class.{is}
use Rattle.policy.specs.Basics.{Name, ◌>>=◌, each_of, index_of}
use Rattle.policy.specs.Words.{dotless}
use Rattle.policy.specs.Statements.{Family, roles, types, Sort, thing_of, attribute_of, family_of, Declaration, class_names, from_of, to_of}
use Rattle.policy.specs.Statements.{SetExpr, name_s, all_s, not_s, and_s, or_s, xor_s, union_s, empty_s, Constraint, sides_e, name_e, not_e, and_e, or_e}
use Rattle.policy.specs.Statements.{declare, attributeset, gives, roletransition, constrain, validatetrans, Written}
use Rattle.policy.specs.Names.{Environment, has_dot_in_front, tries, first_hit, first_from, environment_of, refer, number_in}
use Rattle.policy.specs.Reading.{refer_s, refer_e, resolved}
use Rattle.policy.proofs.Lists.{both_true}
use Rattle.policy.proofs.Options.{or-none}
use Rattle.policy.proofs.Environments.{tried-once}
use Rattle.before_laws.specs.Before as before
use Rattle.before_laws.proofs.PlainWords.{Plain}
use Rattle.before_laws.proofs.WrittenNames.{NamesS, NamesE, Names}

module _ {A B : Type 0} where
  -- the same value, and the same after it
  then_same : {x y : Option A} {f g : A → Option B} → x ≡ y → ((a : A) → f a ≡ g a) → (x >>= f) ≡ (y >>= g)
  then_same {x} {y} {f} {g} e h = ap (λ (o : Option A). o >>= f) e ∙ go y
    where
      go : (o : Option A) → (o >>= f) ≡ (o >>= g)
      go none = refl
      go (some a) = h a

-- ---- environments that agree

-- they say the same of every name with the property, and of permissions
pub record Agree (P : Name → Type 0) (a b : Environment) : Type 0 where
  pub find : (f : Family) (w : Name) → P w → a.find f w ≡ b.find f w
  pub class : (w : Name) → P w → a.class w ≡ b.class w
  pub permission : a.permission ≡ b.permission

module _ (P : Name → Type 0) (a b : Environment) (same : Agree P a b) where
  refer-same : (f : Family) (w : Name) → P w → refer a f w ≡ refer b f w
  unfolding refer
  refer-same f w x = then_same (same.find f w x) λ d. refl

  number_same : (s : Sort) (w : Name) → P w → number_in a s w ≡ number_in b s w
  unfolding number_in
  number_same s w x = then_same (same.find (family_of s) w x) λ d. refl

  -- each follows the definition of the reading that it speaks of
  set_same : (f : Family) (s : SetExpr Name) → NamesS P s → refer_s a f s ≡ refer_s b f s
  unfolding refer_s
  set_same f (name_s w) x = then_same (refer-same f w x) λ r. refl
  set_same f all_s x = refl
  set_same f (not_s s) x = then_same (set_same f s x) λ s. refl
  set_same f (and_s s t) x = then_same (set_same f s x.0) λ s. then_same (set_same f t x.1) λ t. refl
  set_same f (or_s s t) x = then_same (set_same f s x.0) λ s. then_same (set_same f t x.1) λ t. refl
  set_same f (xor_s s t) x = then_same (set_same f s x.0) λ s. then_same (set_same f t x.1) λ t. refl
  set_same f (union_s s t) x = then_same (set_same f s x.0) λ s. then_same (set_same f t x.1) λ t. refl
  set_same f empty_s x = refl

  constraint-same : (e : Constraint Name) → NamesE P e → refer_e a e ≡ refer_e b e
  unfolding refer_e
  constraint-same (sides_e f o) x = refl
  constraint-same (name_e f s o w) x = then_same (refer-same f w x) λ r. refl
  constraint-same (not_e e) x = then_same (constraint-same e x) λ e. refl
  constraint-same (and_e d e) x = then_same (constraint-same d x.0) λ d. then_same (constraint-same e x.1) λ e. refl
  constraint-same (or_e d e) x = then_same (constraint-same d x.0) λ d. then_same (constraint-same e x.1) λ e. refl

  pub resolved-same : (w : Written) → Names P w → resolved a w ≡ resolved b w
  resolved-same (declare d) x = refl
  resolved-same (attributeset f n s) x = then_same (number_same (attribute_of f) n x.0) λ n. then_same (set_same f s x.1) λ s. refl
  resolved-same (gives r v w) x = then_same (refer-same (from_of r) v x.0) λ v. then_same (refer-same (to_of r) w x.1) λ w. refl
  resolved-same (roletransition r t c n) x =
      then_same (refer-same roles r x.0) λ r. then_same (refer-same types t x.1) λ t. then_same (same.class c x.2) λ c.
      then_same (number_same (thing_of roles) n x.3) λ n. refl
  resolved-same (constrain c ps e) x =
      then_same (same.class c x.0) λ c. then_same (ap (λ (g : ℕ → Name → Option ℕ). each_of (g c) ps) same.permission) λ ps.
      then_same (constraint-same e x.1) λ e. refl
  resolved-same (validatetrans c e) x = then_same (same.class c x.0) λ c. then_same (constraint-same e x.1) λ e. refl

-- ---- the whole-text level

-- a name without a dot has none in front
none-in-front : (w : Name) → dotless w ≡ true → has_dot_in_front w ≡ false
unfolding dotless
none-in-front [] e = refl
none-in-front (b ∷ bs) e = not-true (is "." b) (both_true (not (is "." b)) (dotless bs) e).0

-- and what is found is what is found under it
one_hit : {A : Type 0} (find : Name → Option A) (w : Name) → dotless w ≡ true → first_hit find (tries [] w) ≡ find w
unfolding first_hit
one_hit find w e = ap (first_hit find) (tried-once w (none-in-front w e)) ∙ or-none (find w)

-- permissions are looked up as before in any case
pub names-as-before : (ds : List Declaration) → Agree Plain (environment_of ds []) (before.environment_of ds)
unfolding environment_of before.environment_of
names-as-before ds = record {
  find = λ f w x. one_hit (first_from [] ds f) w x.0;
  class = λ w x. one_hit (λ v. index_of v (class_names ds)) w x.0;
  permission = refl;
}
